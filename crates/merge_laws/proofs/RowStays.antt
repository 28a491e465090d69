-- The row that was reserved for a section that a repeated group lists: it stays reserved.
-- Assumes nothing.
use Rattle.std.specs.Prelude.{ℕ, ◌+◌, ◌*◌, ◌<◌, ◌≡◌, refl, true, false, ◌≢◌, eqb, ltb, get_or, length}
use Rattle.std.proofs.Common.{arith, sym, ap, ◌∙◌, ltb-true, ltb-false, eq-eqb}
use Rattle.std.proofs.lemmas.Bool.{false≢true}
use mathlib.Core.List.{List}
use Rattle.cells.specs.Proof.Split.{by-test}
use Rattle.cells.specs.Proof.Rows.{row_other}
use Rattle.link.specs.Proof.Passed.{passed-sections, passed-slots}
use Rattle.strings.specs.Lookup.{Looked}
use Rattle.interner.specs.Names.{Store, store_of, keep_of}
use Rattle.symbol.specs.declared.Row.{Row}
use Rattle.symbol_resolution.specs.Decision.{Decision}
use Rattle.symbol_resolution.specs.Decide.{refusal_of}
use Rattle.symbol_resolution.specs.Apply.{Table, table_of, append_of, apply_of}
use Rattle.symbol_resolution.specs.Proof.Outcomes.{decision-left}
use Rattle.sections.specs.Rows.{state_at, built_of, built_cells}
use Rattle.elf_object.specs.Rows.{rows_in, field, name_offset_at, name_in, is_loaded, mark_at, removed_mark}
use Rattle.merge_sections.specs.Reserve.{kind_class, class_of}
use Rattle.merge_symbols.specs.Plan.{Planned}
use Rattle.merge_symbols.specs.Plan.{input_of, planned_of}
use Rattle.merge_symbols.specs.Stage as Symbols
use Rattle.section_groups.specs.Filter.{dropped_at}
use Rattle.merge_symbols.specs.Stage.{accept_row, kept_of, commit_of, view, symbol_named, looked_of, symbol_of, symbols_of}
use Rattle.merge_build.specs.Build.{Plan}
use Rattle.merge_build.specs.Relocations.{table_for, limit_of, relocations_of}
use Rattle.merge_build.specs.Build as Build
use Rattle.merge_build.specs.Build.{lists_fit, plan_of, build_row_of, tabled_of, built_from, section_of, build_of, section_row}
use Rattle.merge_build.specs.Finish.{BuildLinks, building, input_stage, program_stage}
use Rattle.merge_stages.specs.Stages.{All, Object, group_object, symbols_in, put_symbols}
use Rattle.merge_elf.specs.Merge.{head_in, lent, finished_of, merge_of}
use Rattle.symbol_laws.proofs.WritesLemmas.{section-behind}
use Rattle.merge_laws.proofs.Loop.{loop-holds}
use Rattle.merge_laws.specs.MergeSteps.{group_first, symbol_first, reserve_first}
use Rattle.merge_laws.proofs.Issue.{keep-slots}
use Rattle.merge_laws.proofs.More.{makes-slots}
use Rattle.merge_laws.proofs.GroupStageLemmas.{groups-make}
use Rattle.merge_laws.specs.Placed.{row_of}
use Rattle.merge_laws.proofs.Placed.{noted-firsts, slots, reserve-placed, reserve-rows, loaded-class}
use Rattle.merge_laws.proofs.GroupStageLemmas.{groups-firsts}
use Rattle.merge_laws.proofs.SymbolStageLemmas.{symbols-loop, symbol-makes}
use Rattle.merge_laws.proofs.BuildStage.{build-loop}
use Rattle.merge_laws.specs.Whole.{Passed}
use Rattle.merge_laws.proofs.Whole.{passed}
use Rattle.merge_laws.specs.Stops.{reserved, object, prepared, marked, symbol_reader, added, builder, before2, before1, before0, with_build, end, number}
use Rattle.merge_laws.proofs.Stops.{sections-pass, filter-pass, symbols-pass}
use Rattle.merge_laws.proofs.Discarded.{groups-pass, merge-passes}
use Rattle.merge_laws.proofs.Accepted.{sections-going, filter_passes, symbols-going}

-- ---- symbols write behind the rows

applied-front : (t : Table) (r : Row) (d : Decision) (q : ℕ) → q < t.link.slots * 8 → get_or (apply_of t r d).sections q 0 ≡ get_or t.sections q 0
unfolding append_of
applied-front t r d q h =
    decision-left (λ (u : Table). get_or u.sections q 0 ≡ get_or t.sections q 0) t r refl (section-behind t.link t.sections r t.link.symbols q h) (λ id x. refl) d

pub symbol-front : (o : Symbols.Object) (s : Symbols.State) (i q : ℕ) → q < s.stage.link.slots * 8 → get_or (symbol_of o s i).sections q 0 ≡ get_or s.sections q 0
unfolding symbol_of looked_of symbol_named commit_of kept_of accept_row
symbol-front o s i q h =
    let x : Looked = name_in o.headers o.image o.symbol_names (field o.entries i 0) in
    let p : Planned = planned_of (view s) (input_of o.entries o.work) x.name i s.stage.file in
    let k : Store = keep_of (store_of s.bytes s.names s.stage.link) p.id x.name in
    by-test (dropped_at s.stage.link.gabi o.work o.entries i) (λ d. rw d)
    (λ d.
    by-test x.found
    (λ a.
    by-test (eqb (refusal_of p.decision) 2) (λ b. rw (d, a, b))
    (λ b.
    by-test (eqb (refusal_of p.decision) 0)
    (λ c. rw (d, a, b, c) (applied-front (table_of k.names s.symbols s.sections k.link) p.row p.decision q (rw (keep-slots (store_of s.bytes s.names s.stage.link) p.id x.name) h))) (λ c. rw (d, a, b, c))))
    (λ a. rw (d, a)))

-- ---- a section that is built writes its own row

section-other : (o : Build.Object) (kind r : ℕ) (s : Build.State) (n : ℕ) → (built_from o.headers o.work n kind ≡ true → r ≢ row_of o.work n)
    → state_at (section_of o s n kind).sections r ≡ state_at s.sections r
unfolding section_of Build.looked_of Build.section_named tabled_of Build.commit_of Build.kept_of build_row_of built_of
section-other o kind r s n u =
    let x : Looked = name_in o.headers o.image o.section_names (name_offset_at o.headers n) in
    let relocations : List ℕ = relocations_of o.headers o.contents (table_for o.work n kind) in
    let q : Plan =
    plan_of s.stage.link s.bytes s.names (length s.lists) o.ids (limit_of o.headers (table_for o.work n kind) o.table o.symbols) relocations x.name in
    let k : Store = keep_of (store_of s.bytes s.names s.stage.link) q.id x.name in
    by-test (built_from o.headers o.work n kind)
    (λ a.
    by-test x.found
    (λ b.
    by-test (eqb q.number 2) (λ c. simp (a, b, c))
    (λ c.
    by-test (eqb q.number 0)
    (λ d.
    by-test (lists_fit k.link.lists (length s.lists) (length relocations))
    (λ e.
    simp (a, b, c, d, e)
    (row_other s.sections (row_of o.work n) (built_cells (section_row o.headers n kind q.id k.link.lists (length relocations))) r 0 refl (omega arith) (u a)))
    (λ e. simp (a, b, c, d, e)))
    (λ d. simp (a, b, c, d))))
    (λ b. simp (a, b)))
    (λ a. simp a)

build-other : (o : Build.Object) (kind r : ℕ) → ((n : ℕ) → built_from o.headers o.work n kind ≡ true → r ≢ row_of o.work n)
    → (s : Build.State) → state_at s.sections r ≡ 1 → state_at (build_of o s kind).sections r ≡ 1
unfolding build_of
build-other o kind r u s e =
    rw (build-loop o kind (rows_in o.headers) 0 s)
    (loop-holds (λ (t : Build.State). t.stage.number) (λ (t : Build.State) (n : ℕ). section_of o t n kind) (λ (t : Build.State). state_at t.sections r ≡ 1)
    (λ t n h. section-other o kind r t n (u n) ∙ h) (rows_in o.headers) 0 s e)

input-same : (s : BuildLinks) → (input_stage s).sections ≡ s.sections
unfolding input_stage
input-same s = by-test (eqb s.stage.number 0) (λ t. rw t) (λ t. rw t)

built-loaded : (headers work : List ℕ) (n kind : ℕ) → built_from headers work n kind ≡ true → is_loaded headers n kind ≡ true
unfolding built_from
built-loaded headers work n kind e = by-test (is_loaded headers n kind) (λ t. t) (λ t. absurd (false≢true (rw t at e)))

unbuilt : (headers work : List ℕ) (m kind : ℕ) → mark_at work m ≡ removed_mark → built_from headers work m kind ≡ false
unfolding built_from
unbuilt headers work m kind e = by-test (is_loaded headers m kind) (λ t. rw (t, e)) (λ t. rw t)

-- ---- the merge

module _ (o : Object) (a : All) (ok : (merge_of o a).said.number ≡ 0) where
  head : (head_in o a).number ≡ 0
  head = (merge-passes o a ok).0

  whole : number o a ≡ 0
  whole = (merge-passes o a ok).1

  abbrev rows : ℕ
  rows = rows_in o.headers

  -- the row of section k, behind the groups as before them
  same_row : (k : ℕ) → k < rows → row_of (marked o a).work k ≡ row_of (reserved o a).work k
  same_row k h =
      ap (λ (c : ℕ). (Build.section_id_of c).0)
      (groups-firsts (group_object (object o a)) rows (group_first (prepared o a)) k h ∙ noted-firsts o.headers o.entries (reserved o a).work k h)

  module _ (m : ℕ) (low : m < rows) (rowed : class_of o.headers m ≡ 2) (mark : mark_at (marked o a).work m ≡ removed_mark) where
    abbrev r : ℕ
    r = row_of (marked o a).work m

    p : Passed o a
    p = passed o a head

    others_apart : (kind : ℕ) → kind_class kind ≡ 2 → (n : ℕ) → built_from o.headers (marked o a).work n kind ≡ true → r ≢ row_of (marked o a).work n
    others_apart kind c n b e =
        let (apart, held) = reserve-rows o.headers (reserve_first a) p.work (passed-slots a.stage.link (lent a) p.counts) (passed-sections a.stage.link (lent a) p.counts) (sections-going o a whole) in
        let (h, k) = loaded-class o.headers n kind c (built-loaded o.headers (marked o a).work n kind b) in
        let f : row_of (reserved o a).work m ≡ row_of (reserved o a).work n = sym (same_row m low) ∙ e ∙ same_row n h in
        by-test (ltb m n) (λ t. let q = apart m n (ltb-true _ _ t) h rowed k in omega arith)
        (λ t.
        by-test (ltb n m) (λ v. let q = apart n m (ltb-true _ _ v) low k rowed in omega arith)
        (λ v.
        let g : n ≡ m = omega (arith, ltb-false m n t, ltb-false n m v) in
        absurd (false≢true (sym (unbuilt o.headers (marked o a).work m kind mark) ∙ ap (λ (j : ℕ). built_from o.headers (marked o a).work j kind) (sym g) ∙ b))))

    first : state_at (reserved o a).sections r ≡ 1
    first =
        let (apart, held) = reserve-rows o.headers (reserve_first a) p.work (passed-slots a.stage.link (lent a) p.counts) (passed-sections a.stage.link (lent a) p.counts) (sections-going o a whole) in
        ap (state_at (reserved o a).sections) (same_row m low) ∙ held m low rowed

    abbrev own : ℕ
    own = (reserved o a).reserved.link.slots

    front : r * 8 + 0 < own * 8
    front =
        let x = reserve-placed o.headers (reserve_first a) p.work (passed-slots a.stage.link (lent a) p.counts) (passed-sections a.stage.link (lent a) p.counts) (sections-going o a whole) in
        let e : r ≡ row_of (reserved o a).work m = same_row m low in
        omega (arith, x.placed m low rowed, x.counted, slots own)

    Fits : Symbols.State → Type 0
    Fits t = (t.stage.link.slots ≡ own) × (state_at t.sections r ≡ 1)

    symbols-stay : Fits (added o a)
    unfolding Fits symbols_of
    symbols-stay =
        rw (symbols-loop (symbol_reader o a) (rows_in (object o a).entries) 0 (symbol_first (symbols_in (marked o a))))
        (loop-holds (λ (t : Symbols.State). t.stage.number) (symbol_of (symbol_reader o a)) Fits
        (λ t i f. (makes-slots _ _ _ (symbol-makes (symbol_reader o a) t i) ∙ f.0, symbol-front (symbol_reader o a) t i (r * 8 + 0) (rw f.0 front) ∙ f.1))
        (rows_in (object o a).entries) 0 (symbol_first (symbols_in (marked o a))) (makes-slots _ _ _ (groups-make a.symbols (reserved o a).sections (group_object (object o a)) (group_first (prepared o a))), first))

    built1 : state_at (before1 o a).sections r ≡ 1
    unfolding Fits kind_class
    built1 = build-other (builder o a) 2 r (others_apart 2 refl) (building (before2 o a)) symbols-stay.1

    built0 : state_at (before0 o a).sections r ≡ 1
    unfolding kind_class
    built0 = build-other (builder o a) 1 r (others_apart 1 refl) (building (before1 o a)) built1

    programmed : state_at (program_stage (builder o a) (before1 o a)).sections r ≡ 1
    unfolding program_stage
    programmed =
        by-test (eqb (before1 o a).stage.number 0) (λ t. rw t (ap (λ (l : List ℕ). state_at l r) (input-same (before0 o a)) ∙ built0)) (λ t. rw t built1)

    ended : end o a ≡ with_build o a (program_stage (builder o a) (before1 o a))
    ended =
        sections-pass o a (sections-going o a whole) ∙ filter-pass o a (groups-pass o a whole) (filter_passes o a ok)
        ∙ ap (put_symbols (marked o a)) (symbols-pass o a (symbols-going o a ok))

    pub row_stays : state_at (merge_of o a).cells.sections r ≡ 1
    unfolding merge_of finished_of
    row_stays = rw (eq-eqb (head_in o a).number 0 head) (ap (λ (x : All). state_at x.sections r) ended ∙ programmed)
