-- Inputs and lists: a merge writes none that is counted before it, and none past the counts that it leaves.
-- Assumes nothing.
use Prim.Native.Nat.{ℕ, suc, ◌+◌, ◌-◌, ◌*◌, ◌<◌, ◌≤◌}
use Rattle.std.proofs.Common.{arith, le_trans, ◌∙◌, length-set, ltb-true, ltb-false, get_or-set_other}
use Rattle.std.specs.Prelude.{◌≡◌, true, eqb, ltb, get_or, set, length}
use Rattle.std.proofs.Math.Path.{refl}
use Rattle.std.proofs.lemmas.Bool.{false≢true}
use mathlib.Core.List.{List, [], ◌∷◌}
use Rattle.std.proofs.lemmas.List.Edits.{sets}
use Rattle.cells.specs.Proof.Split.{by-test}
use Rattle.cells.specs.Rows.{put_row}
use Rattle.cells.specs.Proof.Rows.{length-put_row}
use Rattle.link.specs.declared.Link.{Link}
use Rattle.link.specs.declared.Interned.{Interned}
use Rattle.link.specs.Stage.{Stage}
use Rattle.link.specs.Bounds.{input_rows}
use Rattle.link.specs.Judge.{broken_of}
use Rattle.link.specs.Counts.{more_inputs, more_sections, more_lists}
use Rattle.strings.specs.Lookup.{Looked}
use Rattle.interner.specs.Names.{Store, store_of, keep_of}
use Rattle.elf_object.specs.Rows.{rows_in, name_in, name_offset_at}
use Rattle.elf_object.specs.Judge.{range_ok}
use Rattle.sections.specs.Rows as Sections
use Rattle.merge_sections.specs.Reserve as Reserve
use Rattle.section_groups.specs.Group as Group
use Rattle.section_groups.specs.Filter.{filter_of}
use Rattle.merge_symbols.specs.Stage as Symbols
use Rattle.merge_build.specs.Build.{Plan}
use Rattle.merge_build.specs.Relocations.{table_for, limit_of, relocations_of, id_in, append_from}
use Rattle.merge_build.specs.Build.{Object, State, RowState, row_state, lists_fit, plan_of, build_row_of, kept_of, commit_of, tabled_of, section_named, built_from, looked_of, section_of, build_of}
use Rattle.merge_build.specs.Finish.{BuildLinks, input_row_of, building, after_build, input_stage, program_stage, built_of}
use Rattle.merge_stages.specs.Stages.{All, SymbolLinks, Tabled, build_object, symbol_object, after_symbols, symbols_in, build_stage, merge_table_of, filtered_of, filter_stage, merge_groups_of, group_stage, reserved_stages, stages_of}
use Rattle.merge_elf.specs.Merge.{ended_as, head_in, merge_of, finished_of}
use Rattle.merge_build.specs.Finish as Finish
use Rattle.merge_stages.specs.Stages as Stages
use Rattle.merge_laws.proofs.Loop.{loop-holds}
use Rattle.merge_laws.proofs.Issue.{keeps}
use Rattle.merge_laws.proofs.Beside.{sets-past}
use Rattle.merge_laws.proofs.Placed.{reserve-loop}
use Rattle.merge_laws.proofs.GroupStageLemmas.{groups-count}
use Rattle.merge_laws.proofs.SymbolStageLemmas.{symbols-count}
use Rattle.merge_laws.proofs.BuildStage.{number_of, build-loop}
use Rattle.merge_laws.specs.MergeSteps.{build_first, symbol_first, group_first, reserve_first}
use Rattle.merge_laws.specs.Lists.{ListsPast, Listed}

-- ---- inputs and lists, from i, x and k to j, y and l

pub lists-none : (x : List ℕ) (k l : Link) → l.lists ≡ k.lists → ListsPast x k x l
lists-none x k l e = record { more = omega arith; past = λ q h. refl; long = refl; inside = λ h. omega arith }

pub lists-both : (x y z : List ℕ) (k l m : Link) → ListsPast x k y l → ListsPast y l z m → ListsPast x k z m
lists-both x y z k l m p q =
    record {
      more = le_trans p.more q.more;
      past = λ i h. q.past i h ∙ p.past i (omega (arith, q.more));
      long = q.long ∙ p.long;
      inside = λ h. q.inside (p.inside h);
    }

-- lists alone
pub lists-listed : (i x : List ℕ) (k : Link) (y : List ℕ) (l : Link) → ListsPast x k y l → ((q : ℕ) → q < k.lists → get_or y q 0 ≡ get_or x q 0) → l.inputs ≡ k.inputs
    → Listed i x k i y l
lists-listed i x k y l p b f =
    record {
      lists = p;
      lists-below = b;
      inputs-past = λ q h. refl;
      inputs-below = λ q h. refl;
      inputs-more = omega arith;
      inputs_long = refl;
      inputs_in = λ h. omega arith;
    }

-- with the same counts
pub listed-none : (i x : List ℕ) (k l : Link) → l.lists ≡ k.lists → l.inputs ≡ k.inputs → Listed i x k i x l
listed-none i x k l e f = lists-listed i x k x l (lists-none x k l e) (λ q h. refl) f

pub listed-both : (i x : List ℕ) (k : Link) (j y : List ℕ) (l : Link) (h z : List ℕ) (m : Link) → Listed i x k j y l → Listed j y l h z m → Listed i x k h z m
listed-both i x k j y l h z m p q =
    record {
      lists = lists-both x y z k l m p.lists q.lists;
      lists-below = λ n b. q.lists-below n (omega (arith, p.lists.more)) ∙ p.lists-below n b;
      inputs-past = λ n b. q.inputs-past n b ∙ p.inputs-past n (omega (arith, q.inputs-more));
      inputs-below = λ n b. q.inputs-below n (omega (arith, p.inputs-more)) ∙ p.inputs-below n b;
      inputs-more = le_trans p.inputs-more q.inputs-more;
      inputs_long = q.inputs_long ∙ p.inputs_long;
      inputs_in = λ b. q.inputs_in (p.inputs_in b);
    }

pub keep-lists : (s : Store) (id : Interned) (x : List ℕ) → (keep_of s id x).link.lists ≡ s.link.lists
keep-lists s id x = keeps (λ (k : Store). k.link.lists ≡ s.link.lists) s id x refl (λ h r. refl)

pub keep-inputs : (s : Store) (id : Interned) (x : List ℕ) → (keep_of s id x).link.inputs ≡ s.link.inputs
keep-inputs s id x = keeps (λ (k : Store). k.link.inputs ≡ s.link.inputs) s id x refl (λ h r. refl)

-- ---- lists, one section

append-past : (ids ks lists : List ℕ) (at q : ℕ) → at + length ks ≤ q → get_or (append_from ids lists at ks) q 0 ≡ get_or lists q 0
unfolding append_from
append-past ids [] lists at q h = refl
append-past ids (k ∷ ks) lists at q h =
    append-past ids ks (set lists at (id_in ids k)) (at + 1) q (omega arith) ∙ get_or-set_other lists at q (id_in ids k) 0 (λ e. omega arith)

append-below : (ids ks lists : List ℕ) (at q : ℕ) → q < at → get_or (append_from ids lists at ks) q 0 ≡ get_or lists q 0
unfolding append_from
append-below ids [] lists at q h = refl
append-below ids (k ∷ ks) lists at q h =
    append-below ids ks (set lists at (id_in ids k)) (at + 1) q (omega arith) ∙ get_or-set_other lists at q (id_in ids k) 0 (λ e. omega arith)

append-long : (ids ks lists : List ℕ) (at : ℕ) → length (append_from ids lists at ks) ≡ length lists
unfolding append_from
append-long ids [] lists at = refl
append-long ids (k ∷ ks) lists at = append-long ids ks (set lists at (id_in ids k)) (at + 1) ∙ length-set lists at (id_in ids k)

lists-fit : (used all more : ℕ) → lists_fit used all more ≡ true → used + more ≤ all
unfolding range_ok
lists-fit used all more e =
    by-test (ltb all used) (λ a. absurd (false≢true (rw a at e)))
    (λ a.
    by-test (ltb (all - used) more) (λ b. absurd (false≢true (rw (a, b) at e)))
    (λ b. omega (arith, ltb-false all used a, ltb-false (all - used) more b)))

row_listed : (i headers work ids : List ℕ) (s : RowState) (relocations : List ℕ) (id : Interned) (n kind : ℕ)
    → let t = build_row_of headers work ids s relocations id n kind in Listed i s.lists s.link i t.lists t.link
unfolding build_row_of
row_listed i headers work ids s relocations id n kind =
    by-test (lists_fit s.link.lists (length s.lists) (length relocations))
    (λ t.
    let long = append-long ids relocations s.lists s.link.lists in
    rw t
    (lists-listed i s.lists s.link (append_from ids s.lists s.link.lists relocations) (more_lists s.link (length relocations))
    (record {
      more = omega arith;
      past = λ q h. append-past ids relocations s.lists s.link.lists q (omega arith);
      long = long;
      inside = λ h. omega (arith, long, lists-fit s.link.lists (length s.lists) (length relocations) t);
    })
    (λ q h. append-below ids relocations s.lists s.link.lists q h) refl))
    (λ t. rw t (listed-none i s.lists s.link s.link refl refl))

module _ (i : List ℕ) (o : Object) (kind : ℕ) where
  abbrev BuildListed : State → State → Type 0
  BuildListed s t = Listed i s.lists s.stage.link i t.lists t.stage.link

  section-listed : (s : State) (n : ℕ) → BuildListed s (section_of o s n kind)
  unfolding section_of looked_of section_named tabled_of commit_of kept_of
  section-listed s n =
      let x : Looked = name_in o.headers o.image o.section_names (name_offset_at o.headers n) in
      let relocations : List ℕ = relocations_of o.headers o.contents (table_for o.work n kind) in
      let q : Plan =
      plan_of s.stage.link s.bytes s.names (length s.lists) o.ids (limit_of o.headers (table_for o.work n kind) o.table o.symbols) relocations x.name in
      let st : Store = store_of s.bytes s.names s.stage.link in
      let k : Store = keep_of st q.id x.name in
      let named : Listed i s.lists s.stage.link i s.lists k.link =
      listed-none i s.lists s.stage.link k.link (keep-lists st q.id x.name) (keep-inputs st q.id x.name) in
      let none : BuildListed s s = listed-none i s.lists s.stage.link s.stage.link refl refl in
      by-test (built_from o.headers o.work n kind)
      (λ a.
      by-test x.found
      (λ b.
      by-test (eqb q.number 2) (λ c. simp (a, b, c) none)
      (λ c.
      by-test (eqb q.number 0)
      (λ d.
      simp (a, b, c, d)
      (listed-both i s.lists s.stage.link i s.lists k.link i _ _ named
      (row_listed i o.headers o.work o.ids (row_state s.sections s.lists k.link) relocations q.id n kind)))
      (λ d. simp (a, b, c, d) named)))
      (λ b. simp (a, b) none))
      (λ a. simp a none)

  build-listed : (s : State) → BuildListed s (build_of o s kind)
  unfolding build_of
  build-listed s =
      rw (build-loop o kind (rows_in o.headers) 0 s)
      (loop-holds number_of (λ t n. section_of o t n kind) (BuildListed s)
      (λ t n p. listed-both i s.lists s.stage.link i t.lists t.stage.link i _ _ p (section-listed t n)) (rows_in o.headers) 0 s
      (listed-none i s.lists s.stage.link s.stage.link refl refl))

-- ---- sections reserved

module _ (count : Link → ℕ) (more : (l : Link) → count (more_sections l) ≡ count l) where
  one-count : (headers : List ℕ) (s : Reserve.State) (n : ℕ) → count (Reserve.reserve_one_of headers s n).reserved.link ≡ count s.reserved.link
  unfolding Reserve.reserve_one_of Reserve.reserve_class_of Reserve.take_row_of Sections.reserve_of
  one-count headers s n =
      let class : ℕ = Reserve.class_of headers n in
      by-test (eqb (Reserve.reserve_number s.reserved.link s.sections class s.reserved.table) 0)
      (λ a.
      by-test (eqb class 2)
      (λ b. by-test (Sections.room_of s.reserved.link s.sections) (λ c. rw (a, b, c) (more s.reserved.link)) (λ c. rw (a, b, c))) (λ b. rw (a, b)))
      (λ a. rw a)

  pub reserve-count : (headers : List ℕ) (s : Reserve.State) → count (Reserve.reserve_all_of headers s).reserved.link ≡ count s.reserved.link
  unfolding Reserve.reserve_all_of
  reserve-count headers s =
      rw (reserve-loop headers (rows_in headers) 0 s)
      (loop-holds (λ t. t.reserved.number) (Reserve.reserve_one_of headers) (λ t. count t.reserved.link ≡ count s.reserved.link)
      (λ t n e. one-count headers t n ∙ e) (rows_in headers) 0 s refl)

-- ---- the input's row

sets_below : (vs l : List ℕ) (a q : ℕ) → q < a → get_or (sets l a vs) q 0 ≡ get_or l q 0
sets_below [] l a q h = refl
sets_below (v ∷ vs) l a q h = sets_below vs (set l a v) (suc a) q (omega arith) ∙ get_or-set_other l a q v 0 (λ e. omega arith)

-- a row stored at the count
pub row-taken : (inputs lists : List ℕ) (k l : Link) (row : List ℕ) → length row ≡ 8 → k.inputs < input_rows (length inputs) → l.lists ≡ k.lists
    → l.inputs ≡ k.inputs + 1 → Listed inputs lists k (put_row inputs k.inputs row) lists l
unfolding put_row
row-taken inputs lists k l row e h f g =
    let long : length (sets inputs (k.inputs * 8) row) ≡ length inputs = length-put_row inputs k.inputs row in
    record {
      lists = lists-none lists k l f;
      lists-below = λ q b. refl;
      inputs-past = λ q b. sets-past row inputs (k.inputs * 8) q (omega arith);
      inputs-below = λ q b. sets_below row inputs (k.inputs * 8) q b;
      inputs-more = omega arith;
      inputs_long = long;
      inputs_in = λ b. rw long (omega arith);
    }

abbrev LinksListed : BuildLinks → BuildLinks → Type 0
LinksListed s t = Listed s.inputs s.lists s.stage.link t.inputs t.lists t.stage.link

input-listed : (s : BuildLinks) → LinksListed s (input_stage s)
unfolding input_stage input_row_of
input-listed s =
    let l : Link = s.stage.link in
    by-test (eqb s.stage.number 0)
    (λ a.
    by-test (ltb l.inputs (input_rows (length s.inputs)))
    (λ b. rw (a, b) (row-taken s.inputs s.lists l (more_inputs l) Finish.object_cells refl (ltb-true _ _ b) refl refl))
    (λ b. rw (a, b) (listed-none s.inputs s.lists l l refl refl)))
    (λ a. rw a (listed-none s.inputs s.lists l l refl refl))

program-listed : (o : Object) (s : BuildLinks) → LinksListed s (program_stage o s)
unfolding program_stage
program-listed o s =
    let b : State = build_of o (building s) 1 in
    by-test (eqb s.stage.number 0)
    (λ a.
    rw a
    (listed-both s.inputs s.lists s.stage.link s.inputs b.lists b.stage.link _ _ _ (build-listed s.inputs o 1 (building s))
    (input-listed (after_build s b))))
    (λ a. rw a (listed-none s.inputs s.lists s.stage.link s.stage.link refl refl))

built-listed : (o : Object) (s : BuildLinks) → LinksListed s (built_of o s)
unfolding built_of
built-listed o s =
    let b : State = build_of o (building s) 2 in
    listed-both s.inputs s.lists s.stage.link s.inputs b.lists b.stage.link _ _ _ (build-listed s.inputs o 2 (building s))
    (program-listed o (after_build s b))

-- ---- the merge

abbrev Left : All → All → Type 0
Left a b = Listed a.inputs a.lists a.stage.link b.inputs b.lists b.stage.link

abbrev LeftS : SymbolLinks → SymbolLinks → Type 0
LeftS a b = Listed a.inputs a.lists a.stage.link b.inputs b.lists b.stage.link

-- from another link that counts as many
listed-from : (i x : List ℕ) (k m : Link) (j y : List ℕ) (l : Link) → m.lists ≡ k.lists → m.inputs ≡ k.inputs → Listed i x m j y l → Listed i x k j y l
listed-from i x k m j y l e f p = listed-both i x k i x m j y l (listed-none i x k m e f) p

build-left : (o : Tabled) (work : List ℕ) (s : SymbolLinks) → LeftS s (build_stage o work s)
unfolding build_stage
build-left o work s =
    by-test (eqb s.stage.number 0) (λ a. rw a (built-listed (build_object o work s.ids) (build_first s)))
    (λ a. rw a (listed-none s.inputs s.lists s.stage.link s.stage.link refl refl))

table-left : (o : Tabled) (work : List ℕ) (s : SymbolLinks) → LeftS s (merge_table_of o work s)
unfolding merge_table_of
table-left o work s =
    let m : Symbols.State = Symbols.symbols_of (symbol_object o work) (symbol_first s) in
    listed-from s.inputs s.lists s.stage.link m.stage.link _ _ _
    (symbols-count (λ (l : Link). l.lists) keep-lists (λ l n. refl) (symbol_object o work) (symbol_first s))
    (symbols-count (λ (l : Link). l.inputs) keep-inputs (λ l n. refl) (symbol_object o work) (symbol_first s)) (build-left o work (after_symbols s m))

filter-left : (o : Tabled) (a : All) → Left a (filter_stage o a)
unfolding filter_stage filtered_of
filter-left o a =
    let none : Left a a = listed-none a.inputs a.lists a.stage.link a.stage.link refl refl in
    by-test (eqb a.stage.number 0)
    (λ z.
    by-test (ltb (filter_of a.stage.link.gabi a.work o.entries) (rows_in o.entries)) (λ t. rw (z, t) none) (λ t. rw (z, t) (table-left o a.work (symbols_in a))))
    (λ z. rw z none)

groups-left : (o : Stages.Object) (table : ℕ) (a : All) → Left a (group_stage o table a)
unfolding group_stage merge_groups_of Group.groups_of
groups-left o table a =
    let b : All = Stages.noted o a in
    let t : Tabled = Stages.tabled o table in
    let g : Group.Step = Group.groups_of (Stages.group_object t) (group_first b) in
    by-test (eqb a.stage.number 0)
    (λ z.
    rw z
    (listed-from a.inputs a.lists a.stage.link g.stage.link _ _ _
    (groups-count (λ (l : Link). l.lists) keep-lists (Stages.group_object t) (rows_in o.headers) (group_first b))
    (groups-count (λ (l : Link). l.inputs) keep-inputs (Stages.group_object t) (rows_in o.headers) (group_first b))
    (filter-left t (Stages.after_groups b g))))
    (λ z. rw z (listed-none a.inputs a.lists a.stage.link a.stage.link refl refl))

stages-left : (o : Stages.Object) (a : All) → Left a (stages_of o a)
unfolding stages_of reserved_stages
stages-left o a =
    let r : Reserve.State = Reserve.reserve_all_of o.headers (reserve_first a) in
    listed-from a.inputs a.lists a.stage.link r.reserved.link _ _ _
    (reserve-count (λ (l : Link). l.lists) (λ l. refl) o.headers (reserve_first a))
    (reserve-count (λ (l : Link). l.inputs) (λ l. refl) o.headers (reserve_first a)) (groups-left o r.reserved.table (Stages.after_sections a r))

ended-left : (i x : List ℕ) (k : Link) (j y : List ℕ) (s : Stage) → Listed i x k j y s.link → Listed i x k j y (ended_as s).link
unfolding ended_as
ended-left i x k j y s p =
    by-test (eqb s.number 0) (λ z. rw z p)
    (λ z. rw z (listed-both i x k j y s.link j y (broken_of s.link) p (listed-none j y s.link (broken_of s.link) refl refl)))

pub merge-left : (o : Stages.Object) (a : All) → Left a (merge_of o a).cells
unfolding merge_of finished_of
merge-left o a =
    by-test (eqb (head_in o a).number 0)
    (λ h. rw h (ended-left a.inputs a.lists a.stage.link _ _ (stages_of o a).stage (stages-left o a)))
    (λ h. rw h (listed-none a.inputs a.lists a.stage.link a.stage.link refl refl))
