-- The rows of inputs: a merge takes one, of kind object, just if it is accepted; a load, of kind library, just if it is answered "loaded"; no other call
-- takes any.
-- Assumes nothing.
use Rattle.shared_objects.specs.declared.Load.TheVariants.{Loaded}
use Rattle.std.specs.Prelude.{ℕ, ◌+◌, ◌*◌, ◌≡◌, refl, List, [], ◌∷◌, eqb, ltb, get_or, length, Ok, Err}
use Rattle.std.proofs.Common.{arith, ap, subst, ◌∙◌, eqb-true, ltb-true}
use Rattle.std.proofs.lemmas.Bool.{eqb-false}
use Rattle.cells.specs.Proof.Split.{by-test}
use Rattle.cells.specs.Proof.Rows.{row_same}
use Rattle.link.specs.Judge as Answer
use Rattle.link.specs.declared.Link.{Link}
use Rattle.link.specs.declared.Interned.{Interned}
use Rattle.link.specs.Stage.{Stage}
use Rattle.link.specs.Bounds.{input_rows}
use Rattle.link.specs.Judge.{refused, going_of, broken_of}
use Rattle.strings.specs.Lookup.{Looked}
use Rattle.interner.specs.Names.{Store, store_of, find_of, fits_of, keep_of}
use Rattle.elf_object.specs.Rows.{rows_in, name_in, name_offset_at}
use Rattle.merge_sections.specs.Reserve as Reserve
use Rattle.section_groups.specs.Group as Group
use Rattle.section_groups.specs.Filter.{filter_of}
use Rattle.merge_symbols.specs.Stage as Symbols
use Rattle.merge_build.specs.Build.{Plan}
use Rattle.merge_build.specs.Relocations.{table_for, limit_of, relocations_of}
use Rattle.merge_build.specs.Build.{Object, State, RowState, lists_fit, plan_of, build_row_of, kept_of, commit_of, tabled_of, section_named, built_from, looked_of, section_of, build_of}
use Rattle.merge_build.specs.Finish.{BuildLinks, input_row_of, building, after_build, input_stage, program_stage, built_of}
use Rattle.merge_stages.specs.Stages.{SymbolLinks, Tabled, build_object, symbol_object, after_symbols, symbols_in, build_stage, merge_table_of, filtered_of, filter_stage, merge_groups_of, group_stage, reserved_stages, stages_of}
use Rattle.merge_stages.specs.Stages as Stages
use Rattle.merge_elf.specs.Merge as Merge
use Rattle.merge_elf.specs.Merge.{merge_of, finished_of}
use Rattle.shared_objects.specs.Stages as Library
use Rattle.shared_objects.specs.Stages.{Links, library_cells, issued_of, library_of, contents_of, list_stage, lists_of, with_name}
use Rattle.shared_objects.specs.Load as Shared
use Rattle.shared_objects.specs.Load.{load_of, wanted_of}
use Rattle.shared_objects.specs.Record.{Recorded, dependencies_of}
use Rattle.shared_objects.specs.SymbolsLoad as Symboled
use Rattle.shared_objects.specs.Need.{Judged}
use Rattle.load_laws.proofs.LibraryRow.{below_rows}
use Rattle.merge_laws.proofs.Loop.{loop-holds}
use Rattle.merge_laws.proofs.Lists.{keep-inputs, reserve-count}
use Rattle.merge_laws.proofs.GroupStageLemmas.{groups-count}
use Rattle.merge_laws.proofs.SymbolStageLemmas.{symbols-count}
use Rattle.merge_laws.proofs.BuildStage.{number_of, build-loop}
use Rattle.merge_laws.specs.MergeSteps.{build_first, symbol_first, group_first, reserve_first}
use Rattle.load_laws.specs.LoadSteps as LoadSteps
use Rattle.load_laws.specs.LoadSteps.{list_first, lists_in}
use Rattle.load_laws.proofs.Unbroken as Unbroken

-- stages that began with link k and ended with link l, number n and the cells j of inputs took no row; or they took one, of that kind
pub data Took (kind n : ℕ) (k : Link) (j : List ℕ) (l : Link) : Type 0 where
  none : l.inputs ≡ k.inputs → Took kind n k j l
  one : n ≡ 0 → l.inputs ≡ k.inputs + 1 → get_or j (k.inputs * 8 + 0) 0 ≡ kind → Took kind n k j l

took_from : (kind n : ℕ) (k m : Link) (j : List ℕ) (l : Link) → m.inputs ≡ k.inputs → Took kind n m j l → Took kind n k j l
took_from kind n k m j l e (none f) = none (f ∙ e)
took_from kind n k m j l e (one z f g) = one z (f ∙ ap (λ (v : ℕ). v + 1) e) (subst (λ (v : ℕ). get_or j (v * 8 + 0) 0 ≡ kind) e g)

abbrev count : Link → ℕ
count l = l.inputs

-- ---- sections built take none

row_count : (headers work ids : List ℕ) (s : RowState) (relocations : List ℕ) (id : Interned) (n kind : ℕ)
    → (build_row_of headers work ids s relocations id n kind).link.inputs ≡ s.link.inputs
unfolding build_row_of
row_count headers work ids s relocations id n kind =
    by-test (lists_fit s.link.lists (length s.lists) (length relocations)) (λ t. rw t) (λ t. rw t)

section-count : (o : Object) (kind : ℕ) (s : State) (n : ℕ) → (section_of o s n kind).stage.link.inputs ≡ s.stage.link.inputs
unfolding section_of looked_of section_named tabled_of commit_of kept_of
section-count o kind s n =
    let x : Looked = name_in o.headers o.image o.section_names (name_offset_at o.headers n) in
    let relocations : List ℕ = relocations_of o.headers o.contents (table_for o.work n kind) in
    let q : Plan =
    plan_of s.stage.link s.bytes s.names (length s.lists) o.ids (limit_of o.headers (table_for o.work n kind) o.table o.symbols) relocations x.name in
    let named = keep-inputs (store_of s.bytes s.names s.stage.link) q.id x.name in
    by-test (built_from o.headers o.work n kind)
    (λ a.
    by-test x.found
    (λ b.
    by-test (eqb q.number 2) (λ c. simp (a, b, c))
    (λ c.
    by-test (eqb q.number 0) (λ d. simp (a, b, c, d) (row_count o.headers o.work o.ids _ relocations q.id n kind ∙ named))
    (λ d. simp (a, b, c, d) named)))
    (λ b. simp (a, b)))
    (λ a. simp a)

build-count : (o : Object) (kind : ℕ) (s : State) → (build_of o s kind).stage.link.inputs ≡ s.stage.link.inputs
unfolding build_of
build-count o kind s =
    rw (build-loop o kind (rows_in o.headers) 0 s)
    (loop-holds number_of (λ t n. section_of o t n kind) (λ t. t.stage.link.inputs ≡ s.stage.link.inputs) (λ t n e. section-count o kind t n ∙ e)
    (rows_in o.headers) 0 s refl)

-- ---- a merge

abbrev object_kind : ℕ
object_kind = 1

abbrev library_kind : ℕ
library_kind = 2

input-took : (s : BuildLinks) → Took object_kind (input_stage s).stage.number s.stage.link (input_stage s).inputs (input_stage s).stage.link
unfolding input_stage input_row_of
input-took s =
    let l : Link = s.stage.link in
    by-test (eqb s.stage.number 0)
    (λ a.
    by-test (ltb l.inputs (input_rows (length s.inputs)))
    (λ b.
    rw (a, b)
    (one refl refl (row_same s.inputs l.inputs (1 ∷ 0 ∷ 0 ∷ 0 ∷ 0 ∷ 0 ∷ 0 ∷ 0 ∷ []) 0 refl (omega arith) (below_rows _ _ (ltb-true _ _ b)))))
    (λ b. rw (a, b) (none refl)))
    (λ a. rw a (none refl))

program-took : (o : Object) (s : BuildLinks)
    → Took object_kind (program_stage o s).stage.number s.stage.link (program_stage o s).inputs (program_stage o s).stage.link
unfolding program_stage
program-took o s =
    let b : State = build_of o (building s) 1 in
    by-test (eqb s.stage.number 0)
    (λ a. rw a (took_from object_kind _ s.stage.link b.stage.link _ _ (build-count o 1 (building s)) (input-took (after_build s b))))
    (λ a. rw a (none refl))

built-took : (o : Object) (s : BuildLinks) → Took object_kind (built_of o s).stage.number s.stage.link (built_of o s).inputs (built_of o s).stage.link
unfolding built_of
built-took o s =
    let b : State = build_of o (building s) 2 in
    took_from object_kind _ s.stage.link b.stage.link _ _ (build-count o 2 (building s)) (program-took o (after_build s b))

abbrev TookS : SymbolLinks → SymbolLinks → Type 0
TookS s t = Took object_kind t.stage.number s.stage.link t.inputs t.stage.link

abbrev TookA : Stages.All → Stages.All → Type 0
TookA a b = Took object_kind b.stage.number a.stage.link b.inputs b.stage.link

build-took : (o : Tabled) (work : List ℕ) (s : SymbolLinks) → TookS s (build_stage o work s)
unfolding build_stage
build-took o work s =
    by-test (eqb s.stage.number 0) (λ a. rw a (built-took (build_object o work s.ids) (build_first s))) (λ a. rw a (none refl))

table-took : (o : Tabled) (work : List ℕ) (s : SymbolLinks) → TookS s (merge_table_of o work s)
unfolding merge_table_of
table-took o work s =
    let m : Symbols.State = Symbols.symbols_of (symbol_object o work) (symbol_first s) in
    took_from object_kind _ s.stage.link m.stage.link _ _ (symbols-count count keep-inputs (λ l n. refl) (symbol_object o work) (symbol_first s))
    (build-took o work (after_symbols s m))

filter-took : (o : Tabled) (a : Stages.All) → TookA a (filter_stage o a)
unfolding filter_stage filtered_of
filter-took o a =
    by-test (eqb a.stage.number 0)
    (λ z.
    by-test (ltb (filter_of a.stage.link.gabi a.work o.entries) (rows_in o.entries)) (λ t. rw (z, t) (none refl))
    (λ t. rw (z, t) (table-took o a.work (symbols_in a))))
    (λ z. rw z (none refl))

groups-took : (o : Stages.Object) (table : ℕ) (a : Stages.All) → TookA a (group_stage o table a)
unfolding group_stage merge_groups_of Group.groups_of
groups-took o table a =
    let b : Stages.All = Stages.noted o a in
    let t : Tabled = Stages.tabled o table in
    let g : Group.Step = Group.groups_of (Stages.group_object t) (group_first b) in
    by-test (eqb a.stage.number 0)
    (λ z.
    rw z
    (took_from object_kind _ a.stage.link g.stage.link _ _
    (groups-count count keep-inputs (Stages.group_object t) (rows_in o.headers) (group_first b)) (filter-took t (Stages.after_groups b g))))
    (λ z. rw z (none refl))

stages-took : (o : Stages.Object) (a : Stages.All) → TookA a (stages_of o a)
unfolding stages_of reserved_stages
stages-took o a =
    let r : Reserve.State = Reserve.reserve_all_of o.headers (reserve_first a) in
    took_from object_kind _ a.stage.link r.reserved.link _ _ (reserve-count count (λ l. refl) o.headers (reserve_first a))
    (groups-took o r.reserved.table (Stages.after_sections a r))

-- what a merge's end leaves
ended-took : (k : Link) (j : List ℕ) (s : Stage) → Took object_kind s.number k j s.link
    → Took object_kind (Answer.refusal_in (Merge.ended_as s).answer).number k j (Merge.ended_as s).link
unfolding Merge.ended_as
ended-took k j s p = by-test (eqb s.number 0) (λ z. rw z (go (eqb-true _ _ z) p)) (λ z. rw z (stops (eqb-false _ _ z) p))
  where
    go : s.number ≡ 0 → Took object_kind s.number k j s.link → Took object_kind 0 k j s.link
    go e (none f) = none f
    go e (one z f g) = one refl f g

    stops : (s.number ≡ 0 → ⊥) → Took object_kind s.number k j s.link → Took object_kind s.number k j (broken_of s.link)
    stops e (none f) = none f
    stops e (one z f g) = absurd (e z)

pub merge-took : (o : Stages.Object) (a : Stages.All)
    → Took object_kind (merge_of o a).said.number a.stage.link (merge_of o a).cells.inputs (merge_of o a).cells.stage.link
unfolding merge_of finished_of
merge-took o a =
    by-test (eqb (Merge.head_in o a).number 0)
    (λ h. rw h (ended-took a.stage.link (stages_of o a).inputs (stages_of o a).stage (stages-took o a))) (λ h. rw h (none refl))

-- ---- a load

abbrev TookL : Links → Links → Type 0
TookL s t = Took library_kind t.stage.number s.stage.link t.inputs t.stage.link

row-took : (inputs : List ℕ) (r : Recorded) (id : Interned) (first middle : ℕ)
    → let t = Library.input_stage inputs r id first middle in Took library_kind t.stage.number r.stage.link t.inputs t.stage.link
unfolding Library.input_stage Library.library_row_of
row-took inputs r id first middle =
    let l : Link = r.stage.link in
    by-test (eqb r.stage.number 0)
    (λ a.
    by-test (ltb l.inputs (input_rows (length inputs)))
    (λ b.
    rw (a, b)
    (one refl refl (row_same inputs l.inputs (library_cells id.0 first middle l.lists) 0 refl (omega arith) (below_rows _ _ (ltb-true _ _ b)))))
    (λ b. rw (a, b) (none refl)))
    (λ a. rw a (none refl))

lists-took : (file needs : List ℕ) (s : Library.ListLinks) (id : Interned) (first : ℕ)
    → let t = lists_of file needs s id first in Took library_kind t.stage.number s.stage.link t.inputs t.stage.link
unfolding lists_of
lists-took file needs s id first =
    let r : Recorded = dependencies_of file needs (list_first s) in
    took_from library_kind _ s.stage.link r.stage.link _ _
    (Unbroken.dependencies-count count keep-inputs (λ l n. refl) (λ l n. refl) file needs (list_first s)) (row-took s.inputs r id first s.stage.link.lists)

list-stage-took : (file needs inputs : List ℕ) (s : Symboled.State) (id : Interned) (first : ℕ)
    → let t = list_stage file needs inputs s id first in Took library_kind t.stage.number s.stage.link t.inputs t.stage.link
unfolding list_stage
list-stage-took file needs inputs s id first =
    by-test (eqb s.stage.number 0) (λ a. rw a (lists-took file needs (lists_in inputs s) id first)) (λ a. rw a (none refl))

library-took : (entries file needs : List ℕ) (s : Links) (x : List ℕ) → TookL s (library_of entries file needs s x)
unfolding library_of issued_of Library.kept_of contents_of
library-took entries file needs s x =
    let st : Store = store_of s.bytes s.names s.stage.link in
    let id : Interned = record { 0 = find_of s.bytes s.names s.stage.link x } in
    let k : Store = keep_of st id x in
    let named : Links = with_name s k (going_of k.link) in
    let t : Symboled.State = Symboled.symbols_of entries file (LoadSteps.symbol_first named) in
    by-test (fits_of st id (length x))
    (λ a.
    rw a
    (took_from library_kind _ s.stage.link k.link _ _ (keep-inputs st id x)
    (took_from library_kind _ k.link t.stage.link _ _
    (Unbroken.symbols-count count keep-inputs (λ l n. refl) (λ l n. refl) entries file (LoadSteps.symbol_first named))
    (list-stage-took file needs s.inputs t id k.link.lists))))
    (λ a. rw a (none refl))

-- a load took a row, and then it is answered "loaded"
pub data LoadTook (k : Link) (t : Shared.Left) : Type 0 where
  none : t.cells.link.inputs ≡ k.inputs → LoadTook k t
  one : t.answer ≡ Ok Loaded → t.cells.link.inputs ≡ k.inputs + 1 → LoadTook k t

loaded-took : (marks : List ℕ) (k : Link) (s : Links) → Took library_kind s.stage.number k s.inputs s.stage.link → LoadTook k (Shared.leave_loaded marks s)
unfolding Shared.ended_as
loaded-took marks k s p = by-test (eqb s.stage.number 0) (λ z. rw z (go p)) (λ z. rw z (stops (eqb-false _ _ z) p))
  where
    go : Took library_kind s.stage.number k s.inputs s.stage.link
        → LoadTook k (Shared.leave_links marks s (record { link = s.stage.link; answer = (Ok Loaded) }))
    go (none f) = none f
    go (one z f g) = one refl f

    stops : (s.stage.number ≡ 0 → ⊥) → Took library_kind s.stage.number k s.inputs s.stage.link
        → LoadTook k (Shared.leave_links marks s (record { link = broken_of s.stage.link; answer = Err (refused s.stage.number s.stage.place) }))
    stops e (none f) = none f
    stops e (one z f g) = absurd (e z)

pub load-took : (o : Shared.Input) (a : Shared.All) → LoadTook a.link (load_of o a)
unfolding load_of Shared.library_named wanted_of
load-took o a =
    let j : Judged =
    Shared.want_of o.asneeded a.link a.bytes a.names a.symbols a.inputs a.lists a.marks o.entries o.image (Shared.name_of o) in
    by-test (eqb (Shared.head_in o a).number 0)
    (λ h.
    by-test j.needed
    (λ t.
    rw (h, t)
    (loaded-took j.marks a.link (library_of o.entries o.image o.needs (Shared.links_in a) (Shared.name_of o))
    (library-took o.entries o.image o.needs (Shared.links_in a) (Shared.name_of o))))
    (λ t. rw (h, t) (none refl)))
    (λ h. rw h (none refl))
