-- What an accepted merge builds: each loaded program and uninitialized section that isn't removed, with what its header says, and with the ids of the
-- symbols that its last loaded relocation table names.
-- Assumes nothing.
use Prim.Native.Nat.{ℕ, zero, suc, ◌+◌, ◌*◌, ◌%◌, ◌<◌, ◌≤◌}
use native.Mathlib.Omega.{arith}
use Rattle.std.proofs.Common.{le_refl, zero-add, ◌∙◌}
use Rattle.std.proofs.Math.Path.{◌≡◌, refl, sym, ap, subst}
use Rattle.std.specs.Prelude.{Bool, not, ◌&&◌, ◌≢◌, length}
use Rattle.std.proofs.Math.Bool.{true, false, cond}
use Rattle.std.proofs.lemmas.Bool.{false≢true}
use mathlib.Core.List.{List, [], ◌++◌}
use Rattle.std.proofs.Math.Dec.{eqb, ltb}
use borrow.Author.Tests.{eqb-true, eqb-false, ltb-true, ltb-false, eq-eqb}
use Rattle.cells.specs.Proof.Split.{by-test}
use Rattle.gabi.specs.StringTable.{name_at}
use Rattle.link.specs.declared.Link.{Link}
use Rattle.link.specs.Bounds.{section_rows, section_slots, input_rows}
use Rattle.link.specs.Proof.Passed.{passed-slots, passed-sections}
use Rattle.interner.specs.Names.{Store, store_of, keep_of}
use Rattle.interner_laws.specs.Good.{Good}
use Rattle.interner_laws.specs.Good as Good
use Rattle.interner_laws.proofs.Histories.{issued-stays}
use Rattle.elf_object.specs.Rows as Elf
use Rattle.elf_object.specs.Rows.{rows_in, mark_at, is_loaded}
use Rattle.merge_sections.specs.Reserve.{class_of, conversion_of}
use Rattle.merge_build.specs.Relocations.{table_for, relocations_of, symbols_ok, limit_of}
use Rattle.merge_build.specs.Build as Build
use Rattle.merge_build.specs.Build.{section_id_of, built_from, section_of, build_of}
use Rattle.merge_build.specs.Finish.{building, input_row_of, program_stage, with_input}
use Rattle.merge_stages.specs.Stages.{All, Object, group_object, symbols_in, put_symbols}
use Rattle.merge_elf.specs.Merge.{head_in, lent, finished_of, merge_of, ended_as}
use Rattle.symbol_laws.specs.History as History
use Rattle.symbol_laws.specs.ObjectWords.{sections_in, program, uninitialized, group, name_offset, retains, reads, loaded_as}
use Rattle.merge_laws.specs.MergeWords.{size_of, is_rowed, rowed_below, named_by, own_signatures, is_removed}
use Rattle.link.specs.declared.Interned.{Interned}
use Rattle.link.specs.Counts.{with_symbols}
use Rattle.section_groups.specs.Group as Group
use Rattle.merge_symbols.specs.Stage as Symbols
use Rattle.merge_laws.specs.Steps.{run_steps}
use Rattle.merge_laws.proofs.Loop.{loop, loop-holds}
use Rattle.merge_laws.specs.MergeSteps.{reserve_first, group_first, symbol_first, merge_steps}
use Rattle.merge_laws.specs.Marked.{Marked, marks_of}
use Rattle.merge_laws.proofs.MarkedLemmas.{steps-marked}
use Rattle.merge_laws.specs.Placed.{row_of}
use Rattle.merge_laws.proofs.Placed.{few, slots, converted, reserve-beside, reserve-placed}
use Rattle.merge_laws.proofs.Issue.{keep-sections}
use Rattle.merge_laws.proofs.Lists.{keep-lists, reserve-count}
use Rattle.merge_laws.proofs.GroupStageLemmas.{groups-count}
use Rattle.merge_laws.proofs.SymbolStageLemmas.{symbols-long, symbols-count}
use Rattle.merge_laws.proofs.BuildStage.{number_of, build-loop}
use Rattle.merge_laws.specs.SymbolDuplicates.{steps_to}
use Rattle.merge_laws.proofs.SymbolDuplicates.{steps-make}
use Rattle.merge_laws.specs.Whole.{table_in}
use Rattle.merge_laws.proofs.Whole.{passed}
use Rattle.merge_laws.specs.Stops.{reserved, object, prepared, grouped, marked, symbol_reader, added, builder, before2, before1, before0, with_build, end, number}
use Rattle.merge_laws.proofs.Stops.{sections-pass, filter-pass, symbols-pass, program-pass, program-stop, input-pass, input-stop}
use Rattle.merge_laws.proofs.Discarded.{groups-pass, merge-passes}
use Rattle.merge_laws.proofs.Accepted.{sections-going, filter_passes, symbols-going, merge-signatures}
use Rattle.merge_laws.proofs.WorkRows.{loaded-same, class-rowed}
use Rattle.merge_laws.proofs.WorkGroups.{noted, conversion-is, relocations-are, mark-is, clean-section, name-same, signatures-are}
use Rattle.merge_laws.specs.BuiltRow.{BuiltAs}
use Rattle.merge_laws.proofs.BuiltRow.{ids_of, relink-stays, Stands, section-stands, section-keeps, builds, builds-named}
use Rattle.merge_laws.specs.Built.{section_names}

-- ---- an element of a loop, and those after it

module _ {S : Type 0} (num : S → ℕ) (next : S → ℕ → S) (Holds : S → Type 0) (k : ℕ) (stays : (s : S) (j : ℕ) → k < j → Holds s → Holds (next s j)) where
  holds_on : (n i : ℕ) (s : S) → k < i → Holds s → Holds (loop num next n i s)
  holds_on zero i s h q = q
  holds_on (suc n) i s h q =
      by-test (eqb (num (next s i)) 0) (λ t. rw t (holds_on n (i + 1) (next s i) (omega arith) (stays s i h q))) (λ t. rw t (stays s i h q))

  -- what element k leaves where it isn't refused holds at the end, if the later ones leave it
  pub loop-since : (rows i n : ℕ) (s : S) → i + n ≡ k → num s ≡ 0 → num (loop num next rows i s) ≡ 0 → n < rows
      → (num (next (loop num next n i s) k) ≡ 0 → Holds (next (loop num next n i s) k)) → Holds (loop num next rows i s)
  loop-since zero i n s e z h l f = absurd (omega arith)
  loop-since (suc rows) i zero s e z h l f =
      let q : i ≡ k = omega arith in
      by-test (eqb (num (next s i)) 0)
      (λ t. rw t (holds_on rows (i + 1) (next s i) (omega arith) (subst (λ (j : ℕ). Holds (next s j)) (sym q) (f (ap (λ (j : ℕ). num (next s j)) (sym q) ∙ eqb-true _ _ t)))))
      (λ t. absurd (eqb-false _ _ t (rw t at h)))
  loop-since (suc rows) i (suc n) s e z h l f =
      by-test (eqb (num (next s i)) 0)
      (λ t. rw t (loop-since rows (i + 1) n (next s i) (omega arith) (eqb-true _ _ t) (rw t at h) (omega arith) (rw t at f)))
      (λ t. absurd (eqb-false _ _ t (rw t at h)))

-- ---- rows in ascending order

rowed-more : (headers : List ℕ) (m n : ℕ) → m ≤ n → rowed_below headers m ≤ rowed_below headers n
unfolding rowed_below
rowed-more headers m zero h = let e : m ≡ 0 = omega arith in rw e (omega arith)
rowed-more headers m (suc n) h =
    by-test (eqb m (suc n)) (λ t. let e : m ≡ suc n = eqb-true _ _ t in rw e (le_refl _))
    (λ t.
    let u : m ≢ suc n = eqb-false _ _ t in
    let r = rowed-more headers m n (omega arith) in
    by-test (is_rowed headers n) (λ a. rw a (omega arith)) (λ a. rw a r))

pub rowed-own : (headers : List ℕ) (m n : ℕ) → is_rowed headers m ≡ true → m < n → rowed_below headers m < rowed_below headers n
unfolding rowed_below
rowed-own headers m n e h =
    let one : rowed_below headers (suc m) ≡ suc (rowed_below headers m) = rw e in
    omega (arith, rowed-more headers (suc m) n h, one)

-- another link with the same counts
as-relinked : (bytes names sections lists : List ℕ) (l m : Link) (r : ℕ) (x : List ℕ) (kind retain read size : ℕ) (ids : List ℕ) → Good (store_of bytes names l)
    → m.names ≡ l.names → m.bytes ≡ l.bytes → m.chains ≡ l.chains → m.key ≡ l.key → m.sections ≡ l.sections → m.lists ≡ l.lists
    → BuiltAs bytes names sections lists l r x kind retain read size ids → BuiltAs bytes names sections lists m r x kind retain read size ids
as-relinked bytes names sections lists l m r x kind retain read size ids g a b u v c d q =
    record {
      counted = rw c q.counted;
      built = q.built;
      named = issued-stays Good.count Good.name (store_of bytes names l) (store_of bytes names m) _ x (relink-stays bytes names l m a b u v g) q.named;
      kind-is = q.kind-is;
      retains = q.retains;
      reads = q.reads;
      sized = q.sized;
      inside = rw d q.inside;
      ids-are = q.ids-are;
    }

-- reserving counts no lists
reserve-lists : (o : Object) (a : All) → (reserved o a).reserved.link.lists ≡ a.stage.link.lists
reserve-lists o a = reserve-count (λ (l : Link). l.lists) (λ l. refl) o.headers (reserve_first a)

-- as many section rows as the head lets through
pub reserve-full : (o : Object) (a : All) → (head_in o a).number ≡ 0 → (reserved o a).reserved.number ≡ 0
    → (reserved o a).reserved.link.sections ≤ section_rows (reserved o a).reserved.link.slots
reserve-full o a head goes =
    let c = (passed o a head).counts in
    (reserve-placed o.headers (reserve_first a) (passed o a head).work (passed-slots a.stage.link (lent a) c) (passed-sections a.stage.link (lent a) c) goes).counted

pub reserve-slots : (o : Object) (a : All) → (head_in o a).number ≡ 0 → (reserved o a).reserved.link.slots ≤ section_slots (length (reserved o a).sections)
reserve-slots o a head =
    rw (reserve-count (λ (l : Link). l.slots) (λ l. refl) o.headers (reserve_first a), (reserve-beside o.headers (reserve_first a)).long)
    (passed-slots a.stage.link (lent a) (passed o a head).counts)

-- ---- the merge

-- the id of section n: rows are taken in the order of the sections
abbrev pub id_of : All → List ℕ → ℕ → ℕ
id_of a headers n = a.stage.link.sections + rowed_below headers n

module _ (o : Object) (a : All) (ok : (merge_of o a).said.number ≡ 0) (met : List (List ℕ)) (known : Marked (table_in a) met)
    (inside : a.stage.link.lists ≤ length a.lists) where
  abbrev headers : List ℕ
  headers = o.headers

  abbrev rows : ℕ
  rows = sections_in headers

  abbrev work : List ℕ
  work = (marked o a).work

  head : (head_in o a).number ≡ 0
  head = (merge-passes o a ok).0

  whole : number o a ≡ 0
  whole = (merge-passes o a ok).1

  goes : (reserved o a).reserved.number ≡ 0
  goes = sections-going o a whole

  passes : (grouped o a).stage.number ≡ 0
  passes = groups-pass o a whole

  -- ---- rows

  counted : (reserved o a).reserved.link.sections ≡ a.stage.link.sections + rowed_below headers rows
  counted = (noted o a head goes).counted

  abbrev own-slots : ℕ
  own-slots = (reserved o a).reserved.link.slots

  full : (reserved o a).reserved.link.sections ≤ section_rows own-slots
  full = reserve-full o a head goes

  slots_lent : own-slots ≤ section_slots (length (reserved o a).sections)
  slots_lent = reserve-slots o a head

  module _ (m : ℕ) (low : m < rows) (rowed : is_rowed headers m ≡ true) where
    own_below : id_of a headers m < (reserved o a).reserved.link.sections
    own_below = omega (arith, counted, rowed-own headers m rows rowed low)

    pub row_is : row_of work m ≡ id_of a headers m
    row_is =
        let c : class_of headers m ≡ 2 = eqb-true _ _ (class-rowed headers m low ∙ rowed) in
        ap (λ (k : ℕ). (section_id_of k).0) (conversion-is o a head goes m low ∙ ap (λ (k : ℕ). conversion_of k (id_of a headers m)) c)
        ∙ converted (id_of a headers m) (omega (arith, own_below, full, few own-slots))

  loaded-in : (m kind : ℕ) → loaded_as headers m kind ≡ true → (m < rows) × (Elf.kind_at headers m ≡ kind)
  unfolding loaded_as
  loaded-in m kind e = go (ltb m rows) (eqb (Elf.kind_at headers m) kind) (not (eqb (Elf.flags_at headers m % 2) 1)) refl refl e
    where
      go : (b c d : Bool) → ltb m rows ≡ b → eqb (Elf.kind_at headers m) kind ≡ c → (b && c) && d ≡ true → (m < rows) × (Elf.kind_at headers m ≡ kind)
      go true true d h k q = (ltb-true _ _ h, eqb-true _ _ k)
      go true false d h k q = absurd (false≢true q)
      go false c d h k q = absurd (false≢true q)

  program-rowed : (m : ℕ) → loaded_as headers m program ≡ true → is_rowed headers m ≡ true
  unfolding is_rowed
  program-rowed m e = rw e

  uninitialized-rowed : (m : ℕ) → loaded_as headers m uninitialized ≡ true → is_rowed headers m ≡ true
  unfolding is_rowed
  uninitialized-rowed m e = by-test (loaded_as headers m program) (λ t. rw t) (λ t. rw (t, e))

  built-loaded : (m kind : ℕ) → built_from headers work m kind ≡ true → loaded_as headers m kind ≡ true
  unfolding built_from
  built-loaded m kind e = sym (loaded-same headers m kind) ∙ by-test (is_loaded headers m kind) (λ t. t) (λ t. absurd (false≢true (rw t at e)))

  -- ---- the states between

  abbrev cells : ℕ
  cells = length (reserved o a).sections

  abbrev taken : ℕ
  taken = (reserved o a).reserved.link.sections

  good : Good (store_of (added o a).bytes (added o a).names (added o a).stage.link)
  unfolding Symbols.symbols_of
  good =
      let i : ℕ = rows_in (object o a).entries in
      let steps = steps-make o a i in
      let m : Marked (run_steps (steps_to o a i) (table_in a)) (met ++ marks_of (steps_to o a i) (table_in a)) = steps-marked (steps_to o a i) (table_in a) met steps.accepted known in
      (subst (λ (t : History.State). Marked t (met ++ marks_of (steps_to o a i) (table_in a))) steps.leads m).good

  added-count : (count : Link → ℕ) → ((s : Store) (id : Interned) (x : List ℕ) → count (keep_of s id x).link ≡ count s.link) → ((l : Link) (n : ℕ) → count (with_symbols l n) ≡ count l)
      → count (added o a).stage.link ≡ count (reserved o a).reserved.link
  unfolding Group.groups_of
  added-count count same also =
      symbols-count count same also (symbol_reader o a) (symbol_first (symbols_in (marked o a))) ∙ groups-count count same (group_object (object o a)) rows (group_first (prepared o a))

  first-stands : Stands cells taken (building (before2 o a))
  first-stands =
      record {
        good = good;
        lent = omega (arith, inside, added-count (λ l. l.lists) keep-lists (λ l n. refl), reserve-lists o a);
        long = symbols-long (symbol_reader o a) (symbol_first (symbols_in (marked o a)));
        counted = added-count (λ l. l.sections) (λ s id x. keep-sections s id x) (λ l n. refl);
      }

  build-stands : (kind : ℕ) (s : Build.State) → Stands cells taken s → Stands cells taken (build_of (builder o a) s kind)
  unfolding build_of
  build-stands kind s q =
      rw (build-loop (builder o a) kind rows 0 s)
      (loop-holds number_of (λ (t : Build.State) (n : ℕ). section_of (builder o a) t n kind) (Stands cells taken) (λ t n h. section-stands (builder o a) kind cells taken t n h) rows 0 s q)

  -- none of them is refused
  after-symbols : end o a ≡ with_build o a (program_stage (builder o a) (before1 o a))
  after-symbols =
      sections-pass o a goes ∙ filter-pass o a passes (filter_passes o a ok) ∙ ap (put_symbols (marked o a)) (symbols-pass o a (symbols-going o a ok))

  second-goes : (before1 o a).stage.number ≡ 0
  second-goes =
      by-test (eqb (before1 o a).stage.number 0) (λ t. eqb-true _ _ t)
      (λ t.
      let u = eqb-false _ _ t in
      absurd (u (sym (ap (λ (x : All). x.stage.number) (after-symbols ∙ ap (with_build o a) (program-stop o a u))) ∙ whole)))

  third-goes : (before0 o a).stage.number ≡ 0
  third-goes =
      by-test (eqb (before0 o a).stage.number 0) (λ t. eqb-true _ _ t)
      (λ t.
      let u = eqb-false _ _ t in
      absurd (u (sym (ap (λ (x : All). x.stage.number) (after-symbols ∙ ap (with_build o a) (program-pass o a second-goes ∙ input-stop o a u))) ∙ whole)))

  -- ---- one section through its stage

  module _ (n : ℕ) (w : List ℕ) (k retain read size : ℕ) (ids : List ℕ) (low : n < rows) (rowed : is_rowed headers n ≡ true) where
    abbrev As : Build.State → Type 0
    As t = BuiltAs t.bytes t.names t.sections t.lists t.stage.link (row_of work n) w k retain read size ids

    others_apart : (m : ℕ) → m ≢ n → m < rows → is_rowed headers m ≡ true → row_of work n ≢ row_of work m
    others_apart m u h e q =
        let x : id_of a headers n ≡ id_of a headers m = sym (row_is n low rowed) ∙ q ∙ row_is m h e in
        by-test (ltb m n) (λ t. omega (arith, x, rowed-own headers m n e (ltb-true _ _ t)))
        (λ t. let v : n < m = omega (arith, ltb-false m n t) in omega (arith, x, rowed-own headers n m rowed v))

    -- a stage that builds other sections
    other-stage : (kind : ℕ) → ((m : ℕ) → built_from headers work m kind ≡ true → (m ≢ n) × (m < rows) × (is_rowed headers m ≡ true)) → (s : Build.State) → Stands cells taken s → As s
        → As (build_of (builder o a) s kind)
    unfolding build_of
    other-stage kind f s q h =
        rw (build-loop (builder o a) kind rows 0 s)
        (loop-holds number_of (λ (t : Build.State) (j : ℕ). section_of (builder o a) t j kind) (λ (t : Build.State). Stands cells taken t × As t)
        (λ t j p. (section-stands (builder o a) kind cells taken t j p.0, section-keeps (builder o a) kind cells taken t j p.0 (row_of work n) w k retain read size ids (λ b. let (u, v, e) = f j b in others_apart j u v e) p.1))
        rows 0 s (q, h)).1

    -- its own
    own-stage : (kind : ℕ) → ((m : ℕ) → built_from headers work m kind ≡ true → (m < rows) × (is_rowed headers m ≡ true)) → (s : Build.State) → s.stage.number ≡ 0 → Stands cells taken s
        → ((t : Build.State) → Stands cells taken t → (section_of (builder o a) t n kind).stage.number ≡ 0 → As (section_of (builder o a) t n kind))
        → (build_of (builder o a) s kind).stage.number ≡ 0 → As (build_of (builder o a) s kind)
    unfolding build_of
    own-stage kind f s z q here e =
        let next : Build.State → ℕ → Build.State = λ (t : Build.State) (j : ℕ). section_of (builder o a) t j kind in
        let before : Stands cells taken (loop number_of next n 0 s) = loop-holds number_of next (Stands cells taken) (λ t j h. section-stands (builder o a) kind cells taken t j h) n 0 s q in
        rw (build-loop (builder o a) kind rows 0 s)
        (loop-since number_of next (λ (t : Build.State). Stands cells taken t × As t) n
        (λ t j h p.
        (section-stands (builder o a) kind cells taken t j p.0, section-keeps (builder o a) kind cells taken t j p.0 (row_of work n) w k retain read size ids (λ b. let (v, r) = f j b in others_apart j (λ x. omega arith) v r) p.1))
        rows 0 n s (zero-add n) z (ap number_of (sym (build-loop (builder o a) kind rows 0 s)) ∙ e) low
        (λ x. (section-stands (builder o a) kind cells taken (loop number_of next n 0 s) n before, here (loop number_of next n 0 s) before x))).1

  -- ---- what is built

  abbrev removed : ℕ → Bool
  removed = is_removed headers o.entries o.contents o.image met rows

  is-built : (n kind : ℕ) → loaded_as headers n kind ≡ true → removed n ≡ false → built_from headers work n kind ≡ true
  unfolding built_from
  is-built n kind e r =
      let h : n < rows = (loaded-in n kind e).0 in
      let m : mark_at work n ≡ cond (loaded_as headers n group) 1 0 = mark-is o a head goes passes met known n (clean-section o a head goes passes met known n h) ∙ rw r in
      rw (loaded-same headers n kind, e)
      (by-test (loaded_as headers n group) (λ t. let q : mark_at work n ≡ 1 = rw t at m in rw q) (λ t. let q : mark_at work n ≡ 0 = rw t at m in rw q))

  name-is : (n : ℕ) → (Elf.name_in headers o.image o.section_names (name_offset headers n)).name ≡ name_at (section_names o) (name_offset headers n)
  name-is n = name-same headers o.image o.section_names (name_offset headers n)

  module _ (n kind : ℕ) (e : loaded_as headers n kind ≡ true) (r : removed n ≡ false) (rowed : is_rowed headers n ≡ true)
      (kinds : (m : ℕ) → loaded_as headers m kind ≡ true → is_rowed headers m ≡ true) (ks : List ℕ)
      (named : relocations_of headers o.contents (table_for work n kind) ≡ ks) where
    low : n < rows
    low = (loaded-in n kind e).0

    room : row_of work n * 8 + 8 ≤ cells
    room = omega (arith, row_is n low rowed, own_below n low rowed, full, slots own-slots, slots_lent)

    abbrev Here : Build.State → Type 0
    Here t = BuiltAs t.bytes t.names t.sections t.lists t.stage.link (row_of work n) (name_at (section_names o) (name_offset headers n)) kind (retains headers n) (reads headers n) (size_of headers n) (ids_of (added o a).ids ks)

    builds-here : (t : Build.State) → Stands cells taken t → (section_of (builder o a) t n kind).stage.number ≡ 0 → Here (section_of (builder o a) t n kind)
    builds-here t q z =
        let b = builds (builder o a) kind t n q.good (is-built n kind e r) z (omega (arith, room, q.long)) (omega (arith, row_is n low rowed, own_below n low rowed, q.counted)) in
        let u : Build.State = section_of (builder o a) t n kind in
        subst (λ (l : List ℕ). BuiltAs u.bytes u.names u.sections u.lists u.stage.link (row_of work n) (name_at (section_names o) (name_offset headers n)) kind (retains headers n) (reads headers n) (size_of headers n) (ids_of (added o a).ids l)) named
        (subst (λ (x : List ℕ). BuiltAs u.bytes u.names u.sections u.lists u.stage.link (row_of work n) x kind (retains headers n) (reads headers n) (size_of headers n) (ids_of (added o a).ids (relocations_of headers o.contents (table_for work n kind)))) (name-is n) b)

    through : (s : Build.State) → s.stage.number ≡ 0 → Stands cells taken s → (build_of (builder o a) s kind).stage.number ≡ 0 → Here (build_of (builder o a) s kind)
    through s z q y =
        own-stage n _ _ _ _ _ _ low rowed kind (λ m b. let l = built-loaded m kind b in ((loaded-in m kind l).0, kinds m l)) s z q builds-here y

    -- from the end of the last stage to the end of the call
    pub at-the-end : Here (building (before0 o a)) → Stands cells taken (building (before0 o a))
        → let t = (merge_of o a).cells in
        BuiltAs t.bytes t.names t.sections t.lists t.stage.link (id_of a headers n) (name_at (section_names o) (name_offset headers n)) kind (retains headers n) (reads headers n) (size_of headers n) (ids_of (added o a).ids ks)
    unfolding merge_of finished_of ended_as input_row_of
    at-the-end q s =
        let l : Link = (before0 o a).stage.link in
        let e : end o a ≡ with_build o a (with_input (before0 o a) (input_row_of (before0 o a).inputs l)) = after-symbols ∙ ap (with_build o a) (program-pass o a second-goes ∙ input-pass o a third-goes) in
        let p = subst (λ (k : ℕ). BuiltAs (before0 o a).bytes (before0 o a).names (before0 o a).sections (before0 o a).lists l k (name_at (section_names o) (name_offset headers n)) kind (retains headers n) (reads headers n) (size_of headers n) (ids_of (added o a).ids ks)) (row_is n low rowed) q in
        let f : (m : Link) → m.names ≡ l.names → m.bytes ≡ l.bytes → m.chains ≡ l.chains → m.key ≡ l.key → m.sections ≡ l.sections → m.lists ≡ l.lists → BuiltAs (before0 o a).bytes (before0 o a).names (before0 o a).sections (before0 o a).lists m (id_of a headers n) (name_at (section_names o) (name_offset headers n)) kind (retains headers n) (reads headers n) (size_of headers n) (ids_of (added o a).ids ks) =
        λ m x y u v z w. as-relinked (before0 o a).bytes (before0 o a).names (before0 o a).sections (before0 o a).lists l m (id_of a headers n) _ kind _ _ _ _ s.good x y u v z w p in
        rw (eq-eqb (head_in o a).number 0 head, eq-eqb (number o a) 0 whole, e)
        (by-test (ltb l.inputs (input_rows (length (before0 o a).inputs))) (λ t. rw t (f _ refl refl refl refl refl refl)) (λ t. rw t (f _ refl refl refl refl refl refl)))

  second-stands : Stands cells taken (building (before1 o a))
  second-stands = build-stands uninitialized (building (before2 o a)) first-stands

  third-stands : Stands cells taken (building (before0 o a))
  third-stands = build-stands program (building (before1 o a)) second-stands

  -- section n is built after the call, and names the symbols ks
  abbrev pub SectionBuilt : ℕ → ℕ → List ℕ → Type 0
  SectionBuilt n kind ks =
      let t = (merge_of o a).cells in
      BuiltAs t.bytes t.names t.sections t.lists t.stage.link (id_of a headers n) (name_at (section_names o) (name_offset headers n)) kind (retains headers n) (reads headers n) (size_of headers n) (ids_of (added o a).ids ks)

  pub program-built : (n : ℕ) → loaded_as headers n program ≡ true → removed n ≡ false → SectionBuilt n program (named_by headers o.contents n rows)
  unfolding table_for
  program-built n e r =
      let w : relocations_of headers o.contents (table_for work n program) ≡ named_by headers o.contents n rows = relocations-are o a head goes n (loaded-in n program e).0 in
      at-the-end n program e r (program-rowed n e) program-rowed (named_by headers o.contents n rows) w
      (through n program e r (program-rowed n e) program-rowed (named_by headers o.contents n rows) w (building (before1 o a)) second-goes second-stands third-goes) third-stands

  -- "uninitialized" ones have no relocations
  pub uninitialized-built : (n : ℕ) → loaded_as headers n uninitialized ≡ true → removed n ≡ false → SectionBuilt n uninitialized []
  unfolding table_for relocations_of
  uninitialized-built n e r =
      let h = loaded-in n uninitialized e in
      let one = through n uninitialized e r (uninitialized-rowed n e) uninitialized-rowed [] refl (building (before2 o a)) refl first-stands second-goes in
      at-the-end n uninitialized e r (uninitialized-rowed n e) uninitialized-rowed [] refl
      (other-stage n _ _ _ _ _ _ h.0 (uninitialized-rowed n e) program
      (λ m b.
      let l = built-loaded m program b in
      (λ q. other-kind (sym h.1 ∙ ap (Elf.kind_at headers) (sym q) ∙ (loaded-in m program l).1), (loaded-in m program l).0, program-rowed m l))
      (building (before1 o a)) second-stands one)
      third-stands
    where
      other-kind : ◌≡◌ {A = ℕ} 2 1 → ⊥
      other-kind q = omega arith

  pub relocations-named : (n : ℕ) → loaded_as headers n program ≡ true → removed n ≡ false → relocations_of headers o.contents (table_for work n program) ≡ named_by headers o.contents n rows
  unfolding table_for
  relocations-named n e r = relocations-are o a head goes n (loaded-in n program e).0

  -- each relocation of a built section names a symbol with an id
  pub each-known : (n : ℕ) → loaded_as headers n program ≡ true → removed n ≡ false
      → symbols_ok (added o a).ids (limit_of headers (table_for work n program) (object o a).table (rows_in (object o a).entries)) (relocations_of headers o.contents (table_for work n program)) ≡ true
  unfolding build_of
  each-known n e r =
      let s : Build.State = building (before1 o a) in
      let h : n < rows = (loaded-in n program e).0 in
      let w : is_rowed headers n ≡ true = program-rowed n e in
      let next : Build.State → ℕ → Build.State = λ (t : Build.State) (j : ℕ). section_of (builder o a) t j program in
      let before : Stands cells taken (loop number_of next n 0 s) = loop-holds number_of next (Stands cells taken) (λ t j h. section-stands (builder o a) program cells taken t j h) n 0 s second-stands in
      loop-since number_of next (λ (t : Build.State). symbols_ok (added o a).ids (limit_of headers (table_for work n program) (object o a).table (rows_in (object o a).entries)) (relocations_of headers o.contents (table_for work n program)) ≡ true) n
      (λ t j l q. q) rows 0 n s (zero-add n) second-goes (ap number_of (sym (build-loop (builder o a) program rows 0 s)) ∙ third-goes) h
      (λ z.
      (builds-named (builder o a) program (loop number_of next n 0 s) n before.good (is-built n program e r) z
      (omega (arith, row_is n h w, own_below n h w, full, slots own-slots, slots_lent, before.long)) (omega (arith, row_is n h w, own_below n h w, before.counted))).1)

  -- the signatures that it meets, by the object's own groups
  pub signatures-own : marks_of (merge_steps o a) (table_in a) ≡ own_signatures headers o.entries o.contents o.image rows
  signatures-own = merge-signatures o a ok met known ∙ signatures-are o a head goes passes met known rows (le_refl _)

  -- a row for each such section of the object, and no more
  pub rows_taken : (merge_of o a).cells.stage.link.sections ≡ id_of a headers rows
  unfolding merge_of finished_of ended_as input_row_of
  rows_taken =
      let l : Link = (before0 o a).stage.link in
      let e : end o a ≡ with_build o a (with_input (before0 o a) (input_row_of (before0 o a).inputs l)) = after-symbols ∙ ap (with_build o a) (program-pass o a second-goes ∙ input-pass o a third-goes) in
      rw (eq-eqb (head_in o a).number 0 head, eq-eqb (number o a) 0 whole, e)
      (by-test (ltb l.inputs (input_rows (length (before0 o a).inputs))) (λ t. rw t (third-stands.counted ∙ counted)) (λ t. rw t (third-stands.counted ∙ counted)))
