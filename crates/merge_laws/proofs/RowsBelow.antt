-- A merge, refused or not, leaves the section rows that were counted before it.
-- Assumes nothing.
use Rattle.std.specs.Prelude.{ℕ, ◌+◌, ◌*◌, ◌<◌, ◌≤◌, ◌≡◌, true, List, ◌≢◌, eqb, ltb, length}
use Rattle.std.proofs.Common.{arith, le_refl, sym, ◌∙◌}
use Rattle.std.proofs.Math.Path.{refl, ap}
use Rattle.std.proofs.lemmas.Bool.{false≢true}
use borrow.Author.Tests.{eqb-true, eqb-false}
use Rattle.cells.specs.Proof.Split.{by-test}
use Rattle.cells.specs.Proof.Rows.{row_other}
use Rattle.link.specs.Bounds.{section_rows}
use Rattle.strings.specs.Lookup.{Looked}
use Rattle.interner.specs.Names.{Store, store_of, keep_of}
use Rattle.sections.specs.Rows as Sections
use Rattle.sections.specs.Rows.{field, built_of, reserved_cells, built_cells}
use Rattle.elf_object.specs.Rows.{rows_in, name_offset_at, name_in, is_loaded}
use Rattle.merge_sections.specs.Reserve as Reserve
use Rattle.merge_sections.specs.Reserve.{class_of, conversion_of}
use Rattle.merge_symbols.specs.Stage as Symbols
use Rattle.merge_build.specs.Build.{Plan}
use Rattle.merge_build.specs.Relocations.{table_for, limit_of, relocations_of}
use Rattle.merge_build.specs.Build as Build
use Rattle.merge_build.specs.Build.{section_id_of, lists_fit, plan_of, build_row_of, tabled_of, built_from, section_of, build_of, section_row}
use Rattle.merge_build.specs.Finish.{BuildLinks, building, input_stage, program_stage}
use Rattle.merge_stages.specs.Stages.{All, Object, group_object, symbols_in, put_symbols}
use Rattle.merge_elf.specs.Merge.{head_in, finished_of, merge_of}
use Rattle.merge_laws.proofs.Loop.{loop-holds}
use Rattle.merge_laws.specs.MergeSteps.{reserve_first, group_first, symbol_first}
use Rattle.merge_laws.specs.MergeWords.{rowed_below}
use Rattle.merge_laws.specs.Placed.{row_of}
use Rattle.merge_laws.proofs.Placed.{link_in, few, slots, converted, reserve-loop, loaded-class}
use Rattle.merge_laws.proofs.SymbolStageLemmas.{symbols-loop, symbol-makes}
use Rattle.merge_laws.proofs.More.{makes-slots}
use Rattle.merge_laws.proofs.GroupStageLemmas.{groups-make}
use Rattle.merge_laws.proofs.BuildStage.{number_of, build-loop}
use Rattle.merge_laws.proofs.RowStays.{symbol-front}
use Rattle.merge_laws.specs.Stops.{reserved, object, prepared, grouped, marked, symbol_reader, added, builder, before2, before1, before0, end}
use Rattle.merge_laws.proofs.Stops.{filtered, sections-pass, sections-stop, groups-stop, filter-stop, filter-pass, symbols-pass, symbols-stop, program-pass, program-stop}
use Rattle.merge_laws.proofs.WorkGroups.{noted, conversion-is}
use Rattle.merge_laws.proofs.Built.{rowed-own, reserve-full}
use Rattle.merge_laws.proofs.WorkRows.{class-rowed}

-- ---- sections reserved

module _ (headers : List ℕ) (c r f : ℕ) (low : r < c) (small : f < 8) (v : ℕ) where
  abbrev Below : Reserve.State → Type 0
  Below s = (c ≤ (link_in s).sections) × (field s.sections r f ≡ v)

  one_below : (s : Reserve.State) (n : ℕ) → Below s → Below (Reserve.reserve_one_of headers s n)
  unfolding Reserve.reserve_one_of Reserve.reserve_class_of Reserve.take_row_of Sections.reserve_of
  one_below s n b =
      by-test (eqb (Reserve.reserve_number (link_in s) s.sections (class_of headers n) s.reserved.table) 0)
      (λ t.
      by-test (eqb (class_of headers n) 2)
      (λ k.
      by-test (Sections.room_of (link_in s) s.sections)
      (λ m. rw (t, k, m) (omega (arith, b.0), row_other s.sections (link_in s).sections reserved_cells r f refl small (λ e. omega (arith, b.0)) ∙ b.1))
      (λ m. rw (t, k, m) b))
      (λ k. rw (t, k) b))
      (λ t. rw t b)

  reserve-below : (s : Reserve.State) → Below s → Below (Reserve.reserve_all_of headers s)
  unfolding Reserve.reserve_all_of
  reserve-below s b =
      rw (reserve-loop headers (rows_in headers) 0 s)
      (loop-holds (λ t. t.reserved.number) (Reserve.reserve_one_of headers) Below one_below (rows_in headers) 0 s b)

-- ---- a section that is built writes its own row

section-other : (o : Build.Object) (kind r f : ℕ) (s : Build.State) (n : ℕ) → f < 8 → (built_from o.headers o.work n kind ≡ true → r ≢ row_of o.work n)
    → field (section_of o s n kind).sections r f ≡ field s.sections r f
unfolding section_of Build.looked_of Build.section_named tabled_of Build.commit_of Build.kept_of build_row_of built_of
section-other o kind r f s n h u =
    let x : Looked = name_in o.headers o.image o.section_names (name_offset_at o.headers n) in
    let relocations : List ℕ = relocations_of o.headers o.contents (table_for o.work n kind) in
    let q : Plan =
    plan_of s.stage.link s.bytes s.names (length s.lists) o.ids (limit_of o.headers (table_for o.work n kind) o.table o.symbols) relocations x.name in
    let k : Store = keep_of (store_of s.bytes s.names s.stage.link) q.id x.name in
    by-test (built_from o.headers o.work n kind)
    (λ a.
    by-test x.found
    (λ b.
    by-test (eqb q.number 2) (λ c. simp (a, b, c))
    (λ c.
    by-test (eqb q.number 0)
    (λ d.
    by-test (lists_fit k.link.lists (length s.lists) (length relocations))
    (λ e.
    simp (a, b, c, d, e)
    (row_other s.sections (row_of o.work n) (built_cells (section_row o.headers n kind q.id k.link.lists (length relocations))) r f refl h (u a)))
    (λ e. simp (a, b, c, d, e)))
    (λ d. simp (a, b, c, d))))
    (λ b. simp (a, b)))
    (λ a. simp a)

built-class : (headers work : List ℕ) (n kind : ℕ) → Reserve.kind_class kind ≡ 2 → built_from headers work n kind ≡ true → (n < rows_in headers) × (class_of headers n ≡ 2)
unfolding built_from
built-class headers work n kind k e = by-test (is_loaded headers n kind) (λ t. loaded-class headers n kind k t) (λ t. absurd (false≢true (rw t at e)))

input-same : (s : BuildLinks) → (input_stage s).sections ≡ s.sections
unfolding input_stage
input-same s = by-test (eqb s.stage.number 0) (λ t. rw t) (λ t. rw t)

-- ---- the merge

module _ (o : Object) (a : All) (r f : ℕ) (low : r < a.stage.link.sections) (small : f < 8) where
  abbrev Same : List ℕ → Type 0
  Same l = field l r f ≡ field a.sections r f

  reserved-same : Same (reserved o a).sections
  reserved-same = (reserve-below o.headers a.stage.link.sections r f low small (field a.sections r f) (reserve_first a) (le_refl _, refl)).1

  module _ (head : (head_in o a).number ≡ 0) (goes : (reserved o a).reserved.number ≡ 0) where
    abbrev own-slots : ℕ
    own-slots = (reserved o a).reserved.link.slots

    full : (reserved o a).reserved.link.sections ≤ section_rows own-slots
    full = reserve-full o a head goes

    more : a.stage.link.sections ≤ (reserved o a).reserved.link.sections
    more = omega (arith, (noted o a head goes).counted)

    own-high : (m : ℕ) → m < rows_in o.headers → class_of o.headers m ≡ 2 → a.stage.link.sections ≤ row_of (marked o a).work m
    own-high m h c =
        let id : ℕ = a.stage.link.sections + rowed_below o.headers m in
        let b : rowed_below o.headers m < rowed_below o.headers (rows_in o.headers) = rowed-own o.headers m (rows_in o.headers) (sym (class-rowed o.headers m h) ∙ rw c) h in
        let e : row_of (marked o a).work m ≡ id =
        ap (λ (k : ℕ). (section_id_of k).0) (conversion-is o a head goes m h ∙ ap (λ (k : ℕ). conversion_of k id) c)
        ∙ converted id (omega (arith, (noted o a head goes).counted, full, few own-slots)) in
        omega arith

    front : r * 8 + f < own-slots * 8
    front = omega (arith, more, full, slots own-slots)

    Fits : Symbols.State → Type 0
    Fits t = (t.stage.link.slots ≡ own-slots) × Same t.sections

    symbols-same : Fits (added o a)
    unfolding Fits Symbols.symbols_of
    symbols-same =
        rw (symbols-loop (symbol_reader o a) (rows_in (object o a).entries) 0 (symbol_first (symbols_in (marked o a))))
        (loop-holds (λ (t : Symbols.State). t.stage.number) (Symbols.symbol_of (symbol_reader o a)) Fits
        (λ t i q. (makes-slots _ _ _ (symbol-makes (symbol_reader o a) t i) ∙ q.0, symbol-front (symbol_reader o a) t i (r * 8 + f) (rw q.0 front) ∙ q.1))
        (rows_in (object o a).entries) 0 (symbol_first (symbols_in (marked o a))) (makes-slots _ _ _ (groups-make a.symbols (reserved o a).sections (group_object (object o a)) (group_first (prepared o a))), reserved-same))

    build-same : (kind : ℕ) → Reserve.kind_class kind ≡ 2 → (s : Build.State) → Same s.sections → Same (build_of (builder o a) s kind).sections
    unfolding build_of
    build-same kind k s q =
        rw (build-loop (builder o a) kind (rows_in o.headers) 0 s)
        (loop-holds number_of (λ (t : Build.State) (n : ℕ). section_of (builder o a) t n kind) (λ (t : Build.State). Same t.sections)
        (λ t n e.
        section-other (builder o a) kind r f t n small
        (λ b w. let (h, c) = built-class o.headers (marked o a).work n kind k b in omega (arith, own-high n h c)) ∙ e)
        (rows_in o.headers) 0 s q)

    before1-same : Same (before1 o a).sections
    unfolding Fits Reserve.kind_class
    before1-same = build-same 2 refl (building (before2 o a)) symbols-same.1

    before0-same : Same (before0 o a).sections
    unfolding Reserve.kind_class
    before0-same = build-same 1 refl (building (before1 o a)) before1-same

    programmed : Same (program_stage (builder o a) (before1 o a)).sections
    programmed =
        by-test (eqb (before1 o a).stage.number 0)
        (λ t. ap (λ (x : BuildLinks). field x.sections r f) (program-pass o a (eqb-true _ _ t)) ∙ ap (λ (l : List ℕ). field l r f) (input-same (before0 o a)) ∙ before0-same)
        (λ t. ap (λ (x : BuildLinks). field x.sections r f) (program-stop o a (eqb-false _ _ t)) ∙ before1-same)

  end_same : (head_in o a).number ≡ 0 → Same (end o a).sections
  unfolding Fits
  end_same head =
      by-test (eqb (reserved o a).reserved.number 0)
      (λ x.
      let goes = eqb-true _ _ x in
      ap (λ (t : All). field t.sections r f) (sections-pass o a goes)
      ∙ by-test (eqb (grouped o a).stage.number 0)
      (λ y.
      let z = eqb-true _ _ y in
      by-test (ltb (filtered o a) (rows_in (object o a).entries)) (λ w. ap (λ (t : All). field t.sections r f) (filter-stop o a z w) ∙ reserved-same)
      (λ w.
      ap (λ (t : All). field t.sections r f) (filter-pass o a z w)
      ∙ by-test (eqb (added o a).stage.number 0)
      (λ q. ap (λ (t : All). field t.sections r f) (ap (put_symbols (marked o a)) (symbols-pass o a (eqb-true _ _ q))) ∙ programmed head goes)
      (λ q. ap (λ (t : All). field t.sections r f) (ap (put_symbols (marked o a)) (symbols-stop o a (eqb-false _ _ q))) ∙ (symbols-same head goes).1)))
      (λ y. ap (λ (t : All). field t.sections r f) (groups-stop o a (eqb-false _ _ y)) ∙ reserved-same))
      (λ x. ap (λ (t : All). field t.sections r f) (sections-stop o a (eqb-false _ _ x)) ∙ reserved-same)

  pub merge-same : field (merge_of o a).cells.sections r f ≡ field a.sections r f
  unfolding merge_of finished_of
  merge-same = by-test (eqb (head_in o a).number 0) (λ t. rw t (end_same (eqb-true _ _ t))) (λ t. rw t)
