-- An accepted merge: the signatures that it marks are those of its groups, and the rows that it adds those of its symbols, each in order and none
-- left out.
-- Assumes nothing.
use Rattle.std.specs.Prelude.{ℕ, zero, suc, ◌<◌, ◌≤◌, ◌≡◌, false, cond, eqb, ltb}
use Rattle.std.proofs.Common.{arith, zero-add, le_refl, sym, ◌∙◌}
use Rattle.std.proofs.Math.Path.{refl, ap}
use mathlib.Core.List.{List, [], ◌∷◌, ◌++◌, append-nil}
use borrow.Author.Tests.{eqb-true, eqb-false, eq-eqb}
use Rattle.cells.specs.Proof.Split.{by-test}
use Rattle.strings.specs.Lookup.{Looked}
use Rattle.symbol.specs.declared.Row.{Row}
use Rattle.symbol_resolution.specs.Decision.{Decision}
use Rattle.symbol_resolution.specs.Decide.{refusal_of}
use Rattle.elf_object.specs.Rows.{rows_in, is_loaded, name_in, name_offset_at}
use Rattle.section_groups.specs.Group as Group
use Rattle.section_groups.specs.Group.{group_section_of, groups_of}
use Rattle.section_groups.specs.Filter.{filter_of}
use Rattle.merge_symbols.specs.Plan.{input_of}
use Rattle.merge_symbols.specs.Stage as Symbols
use Rattle.merge_symbols.specs.Stage.{accept_row, kept_of, commit_of, symbol_named, looked_of, symbol_of, symbols_of}
use Rattle.merge_build.specs.Build as Build
use Rattle.merge_build.specs.Finish.{BuildLinks, building, after_build}
use Rattle.merge_stages.specs.Stages.{All, Object, Tabled, SymbolLinks, symbol_object, build_object, after_symbols, symbols_in, put_symbols}
use Rattle.merge_elf.specs.Merge as Merge
use Rattle.merge_elf.specs.Merge.{head_in, merge_of}
use Rattle.symbol_laws.specs.History.{State}
use Rattle.merge_laws.specs.Steps.{Step, others, run_steps}
use Rattle.merge_laws.proofs.Beside.{others-make}
use Rattle.merge_laws.proofs.Placed.{reserve-beside}
use Rattle.merge_laws.specs.Loop.{loop_steps}
use Rattle.merge_laws.proofs.Loop.{loop, loop-going, loop-next, steps_next}
use Rattle.merge_laws.specs.MergeSteps.{adds, row_steps, named_steps, symbol_steps, symbols_steps, signed_steps, group_section_steps, built_steps, section_steps, build_steps, input_steps, program_steps, both_steps, build_first, build_stage_steps, symbol_first, table_steps, filtered_steps, filter_steps, group_first, merge_groups_steps, group_stage_steps, reserved_steps, reserve_first, stages_steps, merge_steps}
use Rattle.merge_laws.specs.Kept.{global_rows, added_rows}
use Rattle.merge_laws.specs.Marked.{Marked, marks_of}
use Rattle.merge_laws.proofs.MarkedLemmas.{marks-append}
use Rattle.merge_laws.proofs.Markless.{Markless, marks-none, both, loop-markless, row-markless, added-append, both-none, loop-none}
use Rattle.merge_laws.proofs.GroupStage as GroupStage
use Rattle.merge_laws.specs.GroupStage.{number_of}
use Rattle.merge_laws.proofs.GroupStageLemmas.{groups-loop}
use Rattle.merge_laws.proofs.SymbolStageLemmas.{symbols-loop}
use Rattle.merge_laws.specs.SymbolIds.{is_dropped, name_of, plan_of}
use Rattle.merge_laws.specs.Whole.{table_in}
use Rattle.merge_laws.specs.Stops.{reserved, object, prepared, grouped, marked, symbol_reader, added, groups_to, symbols_to, number, end}
use Rattle.merge_laws.proofs.Stops.{sections-stop, sections-pass, filtered, filter-stop, filter-pass, symbols-stop}
use Rattle.merge_laws.specs.FirstKept.{reader, steps_to, met_to}
use Rattle.merge_laws.proofs.FirstKept.{to-marked, marks-to, section-marks, other-marks}
use Rattle.merge_laws.proofs.Discarded.{groups-pass, merge-passes}
use Rattle.merge_laws.specs.Accepted.{signatures_to, symbol_rows}

-- ---- what is built marks nothing and adds no row

section-markless : (o : Build.Object) (kind : ℕ) (s : Build.State) (n : ℕ) → Markless (section_steps o kind s n)
unfolding section_steps built_steps
section-markless o kind s n =
    let x : Looked = name_in o.headers o.image o.section_names (name_offset_at o.headers n) in
    by-test (Build.built_from o.headers o.work n kind)
    (λ a. by-test x.found (λ b. by-test (eqb (Build.section_of o s n kind).stage.number 2) (λ c. rw (a, b, c) tt) (λ c. rw (a, b, c) tt)) (λ b. rw (a, b) tt))
    (λ a. rw a tt)

section-none : (o : Build.Object) (kind : ℕ) (s : Build.State) (n : ℕ) → added_rows (section_steps o kind s n) ≡ []
unfolding section_steps built_steps
section-none o kind s n =
    let x : Looked = name_in o.headers o.image o.section_names (name_offset_at o.headers n) in
    by-test (Build.built_from o.headers o.work n kind)
    (λ a. by-test x.found (λ b. by-test (eqb (Build.section_of o s n kind).stage.number 2) (λ c. rw (a, b, c)) (λ c. rw (a, b, c))) (λ b. rw (a, b)))
    (λ a. rw a)

module _ (o : Build.Object) where
  abbrev build : Build.State → ℕ → List Step
  build s kind = build_steps o s kind

  build-markless : (s : Build.State) (kind : ℕ) → Markless (build s kind)
  build-markless s kind = loop-markless (λ t. t.stage.number) (λ t n. Build.section_of o t n kind) (section_steps o kind) (section-markless o kind) (rows_in o.headers) 0 s

  build-none : (s : Build.State) (kind : ℕ) → added_rows (build s kind) ≡ []
  build-none s kind = loop-none (λ t. t.stage.number) (λ t n. Build.section_of o t n kind) (section_steps o kind) (section-none o kind) (rows_in o.headers) 0 s

  program-markless : (s : BuildLinks) → Markless (program_steps o s)
  unfolding program_steps input_steps
  program-markless s =
      let b : BuildLinks = after_build s (Build.build_of o (building s) 1) in
      by-test (eqb s.stage.number 0)
      (λ t. rw t (both (build (building s) 1) (input_steps b) (build-markless (building s) 1) (by-test (eqb b.stage.number 0) (λ u. rw u tt) (λ u. rw u tt))))
      (λ t. rw t tt)

  program-none : (s : BuildLinks) → added_rows (program_steps o s) ≡ []
  unfolding program_steps input_steps
  program-none s =
      let b : BuildLinks = after_build s (Build.build_of o (building s) 1) in
      by-test (eqb s.stage.number 0)
      (λ t. rw t (both-none (build (building s) 1) (input_steps b) (build-none (building s) 1) (by-test (eqb b.stage.number 0) (λ u. rw u) (λ u. rw u))))
      (λ t. rw t)

module _ (o : Tabled) (work : List ℕ) (s : SymbolLinks) where
  built-markless : Markless (build_stage_steps o work s)
  unfolding build_stage_steps both_steps
  built-markless =
      let b : Build.Object = build_object o work s.ids in
      by-test (eqb s.stage.number 0)
      (λ t. rw t (both (build_steps b (building (build_first s)) 2) _ (build-markless b (building (build_first s)) 2) (program-markless b _))) (λ t. rw t tt)

  pub built-none : added_rows (build_stage_steps o work s) ≡ []
  unfolding build_stage_steps both_steps
  built-none =
      let b : Build.Object = build_object o work s.ids in
      by-test (eqb s.stage.number 0)
      (λ t. rw t (both-none (build_steps b (building (build_first s)) 2) _ (build-none b (building (build_first s)) 2) (program-none b _))) (λ t. rw t)

-- ---- symbols mark nothing

symbol-markless : (o : Symbols.Object) (s : Symbols.State) (i : ℕ) → Markless (symbol_steps o s i)
unfolding symbol_steps named_steps
symbol-markless o s i =
    by-test (is_dropped o s i) (λ d. rw d tt) (λ d. by-test (name_of o i).found (λ a. rw (d, a) (row-markless _ _ _ _ _)) (λ a. rw (d, a) tt))

filter-markless : (o : Tabled) (a : All) → Markless (filter_steps o a)
unfolding filter_steps filtered_steps table_steps
filter-markless o a =
    by-test (eqb a.stage.number 0)
    (λ t.
    by-test (ltb (filter_of a.stage.link.gabi a.work o.entries) (rows_in o.entries)) (λ u. rw (t, u) tt)
    (λ u.
    rw (t, u)
    (both (symbols_steps (symbol_object o a.work) (symbol_first (symbols_in a))) _
    (loop-markless (λ t. t.stage.number) (symbol_of (symbol_object o a.work)) (symbol_steps (symbol_object o a.work)) (symbol-markless (symbol_object o a.work)) (rows_in o.entries) 0 (symbol_first (symbols_in a)))
    (built-markless o a.work (after_symbols (symbols_in a) (symbols_of (symbol_object o a.work) (symbol_first (symbols_in a))))))))
    (λ t. rw t tt)

-- ---- groups add no row

pub group-none : (o : Group.Object) (s : Group.Step) (n : ℕ) → added_rows (group_section_steps o s n) ≡ []
unfolding group_section_steps signed_steps
group-none o s n =
    by-test (is_loaded o.headers n 7) (λ a. by-test (eqb (group_section_of o s n).stage.number 0) (λ b. rw (a, b)) (λ b. rw (a, b))) (λ a. rw a)

-- ---- a symbol's row

symbol-row : (o : Symbols.Object) (s : Symbols.State) (i : ℕ) → (symbol_of o s i).stage.number ≡ 0
    → added_rows (symbol_steps o s i) ≡ cond (is_dropped o s i) [] (cond (adds (input_of o.entries o.work) (name_of o i).name i) (global_rows (plan_of o s i).row) [])
unfolding symbol_steps named_steps row_steps symbol_of looked_of symbol_named commit_of kept_of accept_row
symbol-row o s i e =
    let d : Decision = (plan_of o s i).decision in
    by-test (is_dropped o s i) (λ k. rw k)
    (λ k.
    by-test (name_of o i).found
    (λ a.
    by-test (eqb (refusal_of d) 2) (λ b. let z : ◌≡◌ {A = ℕ} 2 0 = rw (k, a, b) at e in absurd (omega arith))
    (λ b.
    by-test (eqb (refusal_of d) 0)
    (λ c.
    by-test (adds (input_of o.entries o.work) (name_of o i).name i) (λ f. rw (k, a, b, c, f) (append-nil (global_rows (plan_of o s i).row))) (λ f. rw (k, a, b, c, f)))
    (λ c. absurd (eqb-false _ _ c (rw (k, a, b, c) at e)))))
    (λ a. let z : ◌≡◌ {A = ℕ} 9 0 = rw (k, a) at e in absurd (omega arith)))

module _ (o : Object) (a : All) where
  module _ (passes : (grouped o a).stage.number ≡ 0) where
    abbrev first : Group.Step
    first = group_first (prepared o a)

    pub going : (n : ℕ) → n ≤ rows_in o.headers → (groups_to o a n).stage.number ≡ 0
    unfolding groups_of
    going n h =
        ap number_of (groups-loop (reader o a) n 0 first)
        ∙ loop-going number_of (group_section_of (reader o a)) (rows_in o.headers) 0 n first refl (ap number_of (sym (groups-loop (reader o a) (rows_in o.headers) 0 first)) ∙ passes) h

    pub next-going : (n : ℕ) → n < rows_in o.headers → (group_section_of (reader o a) (groups_to o a n) n).stage.number ≡ 0
    next-going n h =
        let e : groups_to o a n ≡ loop number_of (group_section_of (reader o a)) n 0 first = groups-loop (reader o a) n 0 first in
        let z : number_of (loop number_of (group_section_of (reader o a)) n 0 first) ≡ 0 = ap number_of (sym e) ∙ going n (omega arith) in
        ap (λ (s : Group.Step). number_of (group_section_of (reader o a) s n)) e
        ∙ ap (λ (j : ℕ). number_of (group_section_of (reader o a) (loop number_of (group_section_of (reader o a)) n 0 first) j)) (sym (zero-add n))
        ∙ ap number_of (sym (loop-next number_of (group_section_of (reader o a)) n 0 first z))
        ∙ ap number_of (sym (groups-loop (reader o a) (suc n) 0 first)) ∙ going (suc n) (omega arith)

    module _ (met : List (List ℕ)) (known : Marked (table_in a) met) where
      groups-signatures : (n : ℕ) → n ≤ rows_in o.headers → marks_of (steps_to o a n) (table_in (prepared o a)) ≡ signatures_to o a n
      groups-signatures zero h = refl
      groups-signatures (suc n) h =
          let last : List (List ℕ) = marks_of (group_section_steps (reader o a) (groups_to o a n) n) (GroupStage.table_in a.symbols (reserved o a).sections (groups_to o a n)) in
          marks-to o a met known n (going n (omega arith))
          ∙ ap (λ (l : List (List ℕ)). l ++ last) (groups-signatures n (omega arith))
          ∙ by-test (is_loaded o.headers n 7)
          (λ t. rw t (ap (◌++◌ (signatures_to o a n)) (section-marks o a met known (groups_to o a n) n (met_to o a met n) (to-marked o a met known n) t (next-going n (omega arith)))))
          (λ t. rw t (ap (◌++◌ (signatures_to o a n)) (other-marks o a met known (groups_to o a n) n t)))

  -- ---- the merge as its stages

  pub sections-going : number o a ≡ 0 → (reserved o a).reserved.number ≡ 0
  sections-going z =
      by-test (eqb (reserved o a).reserved.number 0) (λ c. eqb-true _ _ c)
      (λ c. absurd (eqb-false _ _ c (sym (ap (λ (x : All). x.stage.number) (sections-stop o a (eqb-false _ _ c))) ∙ z)))

  abbrev rest : List Step
  rest = filter_steps (object o a) (marked o a)

  abbrev last : Step
  last = others (end o a).sections (Merge.ended_as (end o a).stage).link

  merge-steps : (head_in o a).number ≡ 0 → number o a ≡ 0
      → merge_steps o a ≡ others (reserved o a).sections (reserved o a).reserved.link ∷ ((steps_to o a (rows_in o.headers) ++ rest) ++ (last ∷ []))
  unfolding merge_steps stages_steps reserved_steps group_stage_steps merge_groups_steps
  merge-steps h z = rw (eq-eqb (head_in o a).number 0 h, eq-eqb (reserved o a).reserved.number 0 (sections-going z))

  module _ (ok : (merge_of o a).said.number ≡ 0) where
    head : (head_in o a).number ≡ 0
    head = (merge-passes o a ok).0

    whole : number o a ≡ 0
    whole = (merge-passes o a ok).1

    -- ---- signatures

    pub merge-signatures : (met : List (List ℕ)) → Marked (table_in a) met → marks_of (merge_steps o a) (table_in a) ≡ signatures_to o a (rows_in o.headers)
    merge-signatures met known =
        let groups : List Step = steps_to o a (rows_in o.headers) in
        let s : State = table_in (prepared o a) in
        let begin : run_steps (others (reserved o a).sections (reserved o a).reserved.link ∷ []) (table_in a) ≡ s =
        (others-make (table_in a) (reserved o a).sections (reserved o a).reserved.link (reserve-beside o.headers (reserve_first a))).leads in
        ap (λ (ks : List Step). marks_of ks (table_in a)) (merge-steps head whole)
        ∙ ap (marks_of ((groups ++ rest) ++ (last ∷ []))) begin
        ∙ marks-append (groups ++ rest) (last ∷ []) s ∙ append-nil (marks_of (groups ++ rest) s)
        ∙ marks-append groups rest s
        ∙ ap (◌++◌ (marks_of groups s)) (marks-none rest (run_steps groups s) (filter-markless (object o a) (marked o a)))
        ∙ append-nil (marks_of groups s)
        ∙ groups-signatures (groups-pass o a whole) met known (rows_in o.headers) (le_refl _)

    -- ---- rows

    abbrev first_symbol : Symbols.State
    first_symbol = symbol_first (symbols_in (marked o a))

    pub filter_passes : ltb (filtered o a) (rows_in (object o a).entries) ≡ false
    filter_passes =
        by-test (ltb (filtered o a) (rows_in (object o a).entries))
        (λ t.
        let e : number o a ≡ 8 = ap (λ (x : All). x.stage.number) (sections-pass o a (sections-going whole) ∙ filter-stop o a (groups-pass o a whole) t) in
        absurd (omega (arith, e, whole)))
        (λ t. t)

    pub symbols-going : (added o a).stage.number ≡ 0
    symbols-going =
        by-test (eqb (added o a).stage.number 0) (λ t. eqb-true _ _ t)
        (λ t.
        let u = eqb-false _ _ t in
        let e = sections-pass o a (sections-going whole) ∙ filter-pass o a (groups-pass o a whole) filter_passes ∙ ap (put_symbols (marked o a)) (symbols-stop o a u) in
        absurd (u (sym (ap (λ (x : All). x.stage.number) e) ∙ whole)))

    abbrev symbol_number : Symbols.State → ℕ
    symbol_number s = s.stage.number

    abbrev steps_of : ℕ → List Step
    steps_of n = loop_steps symbol_number (symbol_of (symbol_reader o a)) (symbol_steps (symbol_reader o a)) n 0 first_symbol

    pub symbol-going : (n : ℕ) → n ≤ rows_in (object o a).entries → (symbols_to o a n).stage.number ≡ 0
    unfolding symbols_of
    symbol-going n h =
        ap symbol_number (symbols-loop (symbol_reader o a) n 0 first_symbol)
        ∙ loop-going symbol_number (symbol_of (symbol_reader o a)) (rows_in (object o a).entries) 0 n first_symbol refl
        (ap symbol_number (sym (symbols-loop (symbol_reader o a) (rows_in (object o a).entries) 0 first_symbol)) ∙ symbols-going) h

    symbols-rows : (n : ℕ) → n ≤ rows_in (object o a).entries → added_rows (steps_of n) ≡ symbol_rows o a n
    symbols-rows zero h = refl
    symbols-rows (suc n) h =
        let next : Symbols.State → ℕ → Symbols.State = symbol_of (symbol_reader o a) in
        let e : symbols_to o a n ≡ loop symbol_number next n 0 first_symbol = symbols-loop (symbol_reader o a) n 0 first_symbol in
        let z : symbol_number (loop symbol_number next n 0 first_symbol) ≡ 0 = ap symbol_number (sym e) ∙ symbol-going n (omega arith) in
        let taken : symbol_number (next (symbols_to o a n) n) ≡ 0 =
        ap (λ (s : Symbols.State). symbol_number (next s n)) e
        ∙ ap (λ (j : ℕ). symbol_number (next (loop symbol_number next n 0 first_symbol) j)) (sym (zero-add n))
        ∙ ap symbol_number (sym (loop-next symbol_number next n 0 first_symbol z))
        ∙ ap symbol_number (sym (symbols-loop (symbol_reader o a) (suc n) 0 first_symbol)) ∙ symbol-going (suc n) h in
        let k : steps_of (suc n) ≡ steps_of n ++ symbol_steps (symbol_reader o a) (symbols_to o a n) n =
        steps_next symbol_number next (symbol_steps (symbol_reader o a)) n 0 first_symbol z
        ∙ ap (λ (j : ℕ). steps_of n ++ symbol_steps (symbol_reader o a) (loop symbol_number next n 0 first_symbol) j) (zero-add n)
        ∙ ap (λ (s : Symbols.State). steps_of n ++ symbol_steps (symbol_reader o a) s n) (sym e) in
        ap added_rows k ∙ added-append (steps_of n) (symbol_steps (symbol_reader o a) (symbols_to o a n) n)
        ∙ ap (λ (l : List Row). l ++ added_rows (symbol_steps (symbol_reader o a) (symbols_to o a n) n)) (symbols-rows n (omega arith))
        ∙ ap (◌++◌ (symbol_rows o a n)) (symbol-row (symbol_reader o a) (symbols_to o a n) n taken)

    rest-rows : added_rows rest ≡ symbol_rows o a (rows_in (object o a).entries)
    unfolding filter_steps filtered_steps table_steps
    rest-rows =
        rw (eq-eqb (grouped o a).stage.number 0 (groups-pass o a whole), filter_passes)
        (added-append (steps_of (rows_in (object o a).entries)) _
        ∙ ap (◌++◌ (added_rows (steps_of (rows_in (object o a).entries)))) (built-none (object o a) (marked o a).work (after_symbols (symbols_in (marked o a)) (added o a)))
        ∙ append-nil (added_rows (steps_of (rows_in (object o a).entries))) ∙ symbols-rows (rows_in (object o a).entries) (le_refl _))

    pub merge-rows : added_rows (merge_steps o a) ≡ symbol_rows o a (rows_in (object o a).entries)
    merge-rows =
        let groups : List Step = steps_to o a (rows_in o.headers) in
        ap added_rows (merge-steps head whole)
        ∙ added-append (groups ++ rest) (last ∷ []) ∙ append-nil (added_rows (groups ++ rest)) ∙ added-append groups rest
        ∙ ap (λ (l : List Row). l ++ added_rows rest) (loop-none number_of (group_section_of (reader o a)) (group_section_steps (reader o a)) (group-none (reader o a)) (rows_in o.headers) 0 (group_first (prepared o a)))
        ∙ rest-rows
