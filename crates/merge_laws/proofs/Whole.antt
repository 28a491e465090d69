-- Theorems over specs/Whole.antt.
-- Assumes nothing.
use Rattle.std.specs.Prelude.{ℕ, ◌/◌, ◌<◌, ◌≤◌, false, List, [], ◌∷◌, eqb, ltb, length}
use Rattle.std.proofs.Common.{arith, le_trans}
use Rattle.std.proofs.Math.Nat.{le_refl}
use Rattle.std.proofs.Math.Path.{◌≡◌, refl}
use borrow.Author.Tests.{eqb-true, eqb-false, ltb-true, ltb-false}
use Rattle.cells.specs.Proof.Split.{by-test}
use Rattle.byte_slices.specs.Proof.Ways.{pick}
use Rattle.link.specs.declared.Link.{Link}
use Rattle.link.specs.declared.Lent.{Lent}
use Rattle.link.specs.declared.cause.Refusal.{Refusal}
use Rattle.link.specs.Stage.{Stage}
use Rattle.link.specs.Bounds.{input_rows, section_slots, section_rows}
use Rattle.link.specs.Judge.{refused, change_of, judge_of}
use Rattle.link.specs.Proof.Passed.{passed-sections, passed-slots}
use Rattle.elf_object.specs.Rows.{rows_in}
use Rattle.elf_object.specs.Judge as Elf
use Rattle.merge_sections.specs.Reserve as Reserve
use Rattle.section_groups.specs.Group as Group
use Rattle.section_groups.specs.Filter.{filter_of}
use Rattle.merge_symbols.specs.Stage as Symbols
use Rattle.merge_build.specs.Build as Build
use Rattle.merge_build.specs.Finish.{BuildLinks, input_row_of, building, after_build, input_stage, program_stage, built_of}
use Rattle.merge_stages.specs.Stages.{All, Object, Tabled, SymbolLinks, build_object, symbol_object, after_symbols, symbols_in, group_object, after_groups, after_sections, noted, tabled, build_stage, merge_table_of, filtered_of, filter_stage, merge_groups_of, group_stage, reserved_stages, stages_of}
use Rattle.merge_elf.specs.Merge.{work_refusal, rows_refusal, check_of, head_in, lent, ended_as, merge_of, finished_of}
use Rattle.symbol_laws.proofs.View.{lesser-first}
use Rattle.merge_laws.specs.Steps.{others, Makes}
use Rattle.merge_laws.proofs.Steps.{makes_none, makes_both}
use Rattle.merge_laws.proofs.Beside.{Beside, beside_none, others-make}
use Rattle.merge_laws.proofs.More.{makes-more, makes-slots}
use Rattle.merge_laws.proofs.Placed.{Placed, placed-firsts, Reserved, noted-firsts, reserve-beside, reserve-placed, slots}
use Rattle.merge_laws.proofs.SymbolStageLemmas.{symbols-make}
use Rattle.merge_laws.proofs.GroupStageLemmas.{groups-make, groups-firsts}
use Rattle.merge_laws.proofs.BuildStage.{build-makes}
use Rattle.merge_laws.specs.MergeSteps.{symbols_steps, groups_steps, build_steps, input_steps, program_steps, both_steps, build_first, build_stage_steps, symbol_first, table_steps, filtered_steps, filter_steps, group_first, merge_groups_steps, group_stage_steps, reserved_steps, reserve_first, stages_steps, merge_steps}
use Rattle.merge_laws.specs.Whole.{Passed, built_table, symbol_table, table_in}

-- ---- from the end on

input-beside : (inputs sections : List ℕ) (l : Link) → Beside sections l sections (input_row_of inputs l).stage.link
unfolding input_row_of
input-beside inputs sections l =
    by-test (ltb l.inputs (input_rows (length inputs)))
    (λ t.
    let h : l.inputs < input_rows (length inputs) = ltb-true _ _ t in
    let k : input_rows (length inputs) ≤ 4095 = lesser-first 4095 (length inputs / 8) in
    rw t
    (record { long = refl; behind = refl; counts = refl; more = le_refl _; past = λ q h. refl; bounded = λ b. (b.0, omega arith) }))
    (λ t. rw t (beside_none sections l))

module _ (symbols : List ℕ) where
  input-makes : (s : BuildLinks) → Makes (built_table symbols s) (input_steps s) (built_table symbols (input_stage s))
  unfolding input_stage input_steps
  input-makes s =
      by-test (eqb s.stage.number 0)
      (λ t. rw t (others-make (built_table symbols s) s.sections _ (input-beside s.inputs s.sections s.stage.link)))
      (λ t. rw t (makes_none (built_table symbols s)))

  module _ (o : Build.Object) (count : ℕ) (placed : Placed o.headers o.work count) where
    program-makes : (s : BuildLinks) → count ≤ s.stage.link.slots → count ≤ s.stage.link.sections → Makes (built_table symbols s) (program_steps o s) (built_table symbols (program_stage o s))
    unfolding program_stage program_steps Reserve.kind_class
    program-makes s c d =
        by-test (eqb s.stage.number 0)
        (λ t.
        rw t
        (makes_both (built_table symbols s) (built_table symbols (after_build s (Build.build_of o (building s) 1))) _ (build_steps o (building s) 1)
        (input_steps (after_build s (Build.build_of o (building s) 1))) (build-makes symbols o 1 count refl placed (building s) c d)
        (input-makes (after_build s (Build.build_of o (building s) 1)))))
        (λ t. rw t (makes_none (built_table symbols s)))

    both-make : (s : BuildLinks) → count ≤ s.stage.link.slots → count ≤ s.stage.link.sections → Makes (built_table symbols s) (both_steps o s) (built_table symbols (built_of o s))
    unfolding built_of both_steps Reserve.kind_class
    both-make s c d =
        let first = build-makes symbols o 2 count refl placed (building s) c d in
        makes_both (built_table symbols s) (built_table symbols (after_build s (Build.build_of o (building s) 2))) _ (build_steps o (building s) 2) _ first
        (program-makes (after_build s (Build.build_of o (building s) 2)) (rw (makes-slots _ _ _ first) c) (le_trans d (makes-more _ _ _ first)))

module _ (o : Tabled) (work : List ℕ) (count : ℕ) (placed : Placed o.headers work count) where
  build-stage-makes : (s : SymbolLinks) → count ≤ s.stage.link.slots → count ≤ s.stage.link.sections → Makes (symbol_table s) (build_stage_steps o work s) (symbol_table (build_stage o work s))
  unfolding build_stage build_stage_steps
  build-stage-makes s c d =
      by-test (eqb s.stage.number 0) (λ t. rw t (both-make s.symbols (build_object o work s.ids) count placed (build_first s) c d))
      (λ t. rw t (makes_none (symbol_table s)))

  table-makes : (s : SymbolLinks) → count ≤ s.stage.link.slots → count ≤ s.stage.link.sections → Makes (symbol_table s) (table_steps o work s) (symbol_table (merge_table_of o work s))
  unfolding merge_table_of table_steps
  table-makes s c d =
      let m : Symbols.State = Symbols.symbols_of (symbol_object o work) (symbol_first s) in
      let first = symbols-make (symbol_object o work) (symbol_first s) in
      makes_both (symbol_table s) (symbol_table (after_symbols s m)) _ (symbols_steps (symbol_object o work) (symbol_first s)) _ first
      (build-stage-makes (after_symbols s m) (rw (makes-slots _ _ _ first) c) (le_trans d (makes-more _ _ _ first)))

module _ (o : Tabled) (count : ℕ) where
  filtered-makes : (a : All) (i : ℕ) → Reserved o.headers a.work a.stage.link.slots count → count ≤ a.stage.link.sections → Makes (table_in a) (filtered_steps o a i) (table_in (filtered_of o a i))
  unfolding filtered_of filtered_steps
  filtered-makes a i r d =
      by-test (ltb i (rows_in o.entries)) (λ t. rw t (makes_none (table_in a)))
      (λ t.
      rw t
      (table-makes o a.work count r.placed (symbols_in a) (omega (arith, r.counted, slots a.stage.link.slots)) d))

  filter-makes : (a : All) → Reserved o.headers a.work a.stage.link.slots count → count ≤ a.stage.link.sections → Makes (table_in a) (filter_steps o a) (table_in (filter_stage o a))
  unfolding filter_stage filter_steps
  filter-makes a r d =
      by-test (eqb a.stage.number 0) (λ t. rw t (filtered-makes a (filter_of a.stage.link.gabi a.work o.entries) r d)) (λ t. rw t (makes_none (table_in a)))

  groups-then : (a : All) → Reserved o.headers a.work a.stage.link.slots count → count ≤ a.stage.link.sections → Makes (table_in a) (merge_groups_steps o a) (table_in (merge_groups_of o a))
  unfolding merge_groups_of merge_groups_steps
  groups-then a r d =
      let g : Group.Step = Group.groups_of (group_object o) (group_first a) in
      let first = groups-make a.symbols a.sections (group_object o) (group_first a) in
      makes_both (table_in a) (table_in (after_groups a g)) _ (groups_steps (group_object o) (group_first a)) (filter_steps o (after_groups a g)) first
      (filter-makes (after_groups a g)
      (record {
        counted = rw (makes-slots _ _ _ first) r.counted;
        placed = placed-firsts o.headers a.work g.work count (groups-firsts (group_object o) (rows_in o.headers) (group_first a)) r.placed;
      })
      (le_trans d (makes-more _ _ _ first)))

module _ (o : Object) where
  group-stage-makes : (table count : ℕ) (a : All) → (a.stage.number ≡ 0 → Reserved o.headers a.work a.stage.link.slots count) → count ≤ a.stage.link.sections
      → Makes (table_in a) (group_stage_steps o table a) (table_in (group_stage o table a))
  unfolding group_stage group_stage_steps
  group-stage-makes table count a f d =
      by-test (eqb a.stage.number 0)
      (λ t.
      let r = f (eqb-true _ _ t) in
      rw t
      (groups-then (tabled o table) count (noted o a)
      (record {
        counted = r.counted;
        placed = placed-firsts o.headers a.work (noted o a).work count (noted-firsts o.headers o.entries a.work) r.placed;
      }) d))
      (λ t. rw t (makes_none (table_in a)))

  module _ (a : All) where
    abbrev reserved : Reserve.State
    reserved = Reserve.reserve_all_of o.headers (reserve_first a)

    pub stages-make : rows_in o.headers ≤ length a.work / 8 → a.stage.link.slots ≤ section_slots (length a.sections) → a.stage.link.sections ≤ section_rows a.stage.link.slots
        → Makes (table_in a) (stages_steps o a) (table_in (stages_of o a))
    unfolding stages_of reserved_stages stages_steps reserved_steps
    stages-make w g c =
        makes_both (table_in a) (table_in (after_sections a reserved)) _ (others reserved.sections reserved.reserved.link ∷ []) _
        (others-make (table_in a) reserved.sections reserved.reserved.link (reserve-beside o.headers (reserve_first a)))
        (group-stage-makes reserved.reserved.table reserved.reserved.link.sections (after_sections a reserved)
        (λ z. reserve-placed o.headers (reserve_first a) w g c z) (le_refl _))

pub change-passed : (l : Link) (n : Lent) → (change_of l n).number ≡ 0 → (l.broken ≡ false) × ((judge_of l n).number ≡ 0)
unfolding change_of
change-passed l n =
    pick (λ (r : Refusal). r.number ≡ 0 → (l.broken ≡ false) × ((judge_of l n).number ≡ 0)) l.broken (refused 22 0) (judge_of l n)
    (λ t e. absurd (let z : ◌≡◌ {A = ℕ} 22 0 = e in omega arith)) (λ t e. (t, e))

module _ (o : Object) (a : All) where
  abbrev judged : Refusal
  judged = Elf.judge_of o.headers o.entries (length o.contents) (length o.image)

  pub passed : (head_in o a).number ≡ 0 → Passed o a
  unfolding check_of rows_refusal work_refusal
  passed e =
      by-test (eqb (change_of a.stage.link (lent a)).number 0)
      (λ c.
      let (b, k) = change-passed a.stage.link (lent a) (eqb-true _ _ c) in
      by-test (eqb judged.number 0)
      (λ d.
      by-test (ltb (length a.work / 8) (rows_in o.headers)) (λ f. let z : ◌≡◌ {A = ℕ} 2 0 = rw (c, d, f) at e in absurd (omega arith))
      (λ f.
      by-test (ltb (length a.ids) (rows_in o.entries)) (λ g. let z : ◌≡◌ {A = ℕ} 2 0 = rw (c, d, f, g) at e in absurd (omega arith))
      (λ g. record { whole = b; counts = k; work = ltb-false _ _ f; ids = ltb-false _ _ g })))
      (λ d. absurd (eqb-false _ _ d (rw (c, d) at e))))
      (λ c. absurd (eqb-false _ _ c (rw c at e)))

  -- ---- the call

  ended-beside : (sections : List ℕ) (s : Stage) → Beside sections s.link sections (ended_as s).link
  unfolding ended_as
  ended-beside sections s =
      by-test (eqb s.number 0) (λ t. rw t (beside_none sections s.link)) (λ t. rw t (record { long = refl; behind = refl; counts = refl; more = le_refl _; past = λ q h. refl; bounded = λ b. b }))

  pub merge-makes : Makes (table_in a) (merge_steps o a) (table_in (merge_of o a).cells)
  unfolding merge_of finished_of merge_steps
  merge-makes =
      by-test (eqb (head_in o a).number 0)
      (λ t.
      let p = passed (eqb-true _ _ t) in
      let u : All = stages_of o a in
      rw t
      (makes_both (table_in a) (table_in u) _ (stages_steps o a) (others u.sections (ended_as u.stage).link ∷ [])
      (stages-make o a p.work (passed-slots a.stage.link (lent a) p.counts) (passed-sections a.stage.link (lent a) p.counts))
      (others-make (table_in u) u.sections (ended_as u.stage).link (ended-beside u.sections u.stage))))
      (λ t. rw t (makes_none (table_in a)))
