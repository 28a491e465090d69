-- Where a merge stops, and what it leaves there: what the elements before the refused one left, and at most that one's name.
-- Assumes nothing.
use Rattle.std.specs.Prelude.{ℕ, ◌<◌, ◌≡◌, true, false, ◌≢◌, eqb, ltb, length}
use Rattle.std.proofs.Common.{zero-add, sym, ◌∙◌, subst, ltb-true, eqb-true, eq-eqb, ne_eqb}
use Rattle.std.proofs.Math.Path.{refl, ap}
use Rattle.std.proofs.lemmas.Bool.{eqb-false}
use Rattle.cells.specs.Proof.Split.{by-test}
use Rattle.link.specs.declared.Link.{Link}
use Rattle.link.specs.Bounds.{input_rows}
use Rattle.elf_object.specs.Rows.{rows_in}
use Rattle.merge_sections.specs.Reserve as Reserve
use Rattle.section_groups.specs.Group as Group
use Rattle.section_groups.specs.Filter.{filter_of}
use Rattle.merge_symbols.specs.Stage as Symbols
use Rattle.merge_build.specs.Build as Build
use Rattle.merge_build.specs.Finish.{input_row_of, building, after_build, with_input, input_stage, program_stage, built_of}
use Rattle.merge_stages.specs.Stages.{All, Object, stop, with_built, symbols_in, put_symbols, group_object, after_groups, after_sections, build_stage, merge_table_of, filtered_of, filter_stage, merge_groups_of, group_stage, reserved_stages, stages_of}
use Rattle.merge_laws.proofs.Loop.{loop, loop-stops}
use Rattle.merge_laws.proofs.Placed.{reserve-loop}
use Rattle.merge_laws.proofs.GroupStageLemmas.{groups-loop}
use Rattle.merge_laws.proofs.SymbolStageLemmas.{symbols-loop}
use Rattle.merge_laws.proofs.BuildStage.{build-loop}
use Rattle.merge_laws.specs.MergeSteps.{symbol_first, group_first, reserve_first}
use Rattle.merge_laws.proofs.Refusals.{SectionLeft, GroupLeft, group-left, SymbolLeft, BuildLeft}
use Rattle.merge_laws.proofs.RefusalsLemmas.{section-left, symbol-left, build-left}
use Rattle.merge_laws.specs.Table.{one_of, section_numbers, group_numbers}
use Rattle.merge_laws.specs.Stops.{reserved, object, prepared, grouped, marked, symbol_reader, added, with_added, builder, before2, before1, before0, with_build, end, number, sections_to, groups_to, symbols_to, uninitialized_to, program_to}

-- ---- a refused loop of each stage

module _ {S : Type 0} (number : S → ℕ) (next : S → ℕ → S) (Left : S → S → ℕ → Type 0)
    (left : (s : S) (i : ℕ) → number s ≡ 0 → number (next s i) ≢ 0 → Left s (next s i) i) where
  -- after the first n of the elements
  pub record Stopped (rows : ℕ) (from : ℕ → S) (t : S) : Type 0 where
    pub n : ℕ
    pub below : n < rows
    pub goes : number (from n) ≡ 0
    pub is : t ≡ next (from n) n
    pub leaves : Left (from n) t n

  pub loop-left : (rows : ℕ) (from : ℕ → S) (s : S) → ((n : ℕ) → from n ≡ loop number next n 0 s) → number s ≡ 0 → number (from rows) ≢ 0 → Stopped rows from (from rows)
  loop-left rows from s e z u =
      let r = loop-stops number next rows 0 s z (λ q. u (ap number (e rows) ∙ q)) in
      let t : from rows ≡ next (from r.done) r.done =
      e rows ∙ r.stopped ∙ ap (next (loop number next r.done 0 s)) (zero-add r.done) ∙ ap (λ (k : S). next k r.done) (sym (e r.done)) in
      record {
        n = r.done;
        below = r.below;
        goes = ap number (e r.done) ∙ r.going;
        is = t;
        leaves =
            subst (λ (k : S). Left (from r.done) k r.done) (sym t)
            (left (from r.done) r.done (ap number (e r.done) ∙ r.going) (λ q. u (ap number t ∙ q)));
      }

module _ (o : Object) (a : All) where
  -- ---- what each stage leaves, from the one before it

  -- ---- what the first n elements of a stage leave

  -- ---- the places

  pub data Stops : Type 0 where
    in-sections : (n : ℕ) → n < rows_in o.headers → (sections_to o a n).reserved.number ≡ 0 → one_of (number o a) section_numbers ≡ true → end o a ≡ stop (after_sections a (sections_to o a n)) (number o a) n → Stops
    in-groups : (n : ℕ) → n < rows_in o.headers → (groups_to o a n).stage.number ≡ 0 → one_of (number o a) group_numbers ≡ true → end o a ≡ stop (after_groups (prepared o a) (groups_to o a n)) (number o a) n → Stops
    in-filter : filter_of (marked o a).stage.link.gabi (marked o a).work (object o a).entries < rows_in (object o a).entries → (grouped o a).stage.number ≡ 0 → end o a ≡ stop (marked o a) 8 (filter_of (marked o a).stage.link.gabi (marked o a).work (object o a).entries) → Stops
    in-symbols : (i : ℕ) (t : Symbols.State) → (reserved o a).reserved.number ≡ 0 → (grouped o a).stage.number ≡ 0 → ltb (filter_of (marked o a).stage.link.gabi (marked o a).work (object o a).entries) (rows_in (object o a).entries) ≡ false → i < rows_in (object o a).entries → (symbols_to o a i).stage.number ≡ 0 → t ≡ Symbols.symbol_of (symbol_reader o a) (symbols_to o a i) i → SymbolLeft (symbol_reader o a) (symbols_to o a i) t i → end o a ≡ put_symbols (marked o a) (with_added o a t) → Stops
    in-uninitialized : (n : ℕ) (t : Build.State) → n < rows_in o.headers → (uninitialized_to o a n).stage.number ≡ 0 → BuildLeft (builder o a) 2 (uninitialized_to o a n) t n → end o a ≡ with_build o a (after_build (before2 o a) t) → Stops
    in-program : (n : ℕ) (t : Build.State) → n < rows_in o.headers → (program_to o a n).stage.number ≡ 0 → BuildLeft (builder o a) 1 (program_to o a n) t n → end o a ≡ with_build o a (after_build (before1 o a) t) → Stops
    in-input : (before0 o a).stage.number ≡ 0 → end o a ≡ stop (with_build o a (before0 o a)) 2 0 → Stops

  -- ---- the stages one after the other

  pub sections-stop : (reserved o a).reserved.number ≢ 0 → end o a ≡ after_sections a (reserved o a)
  unfolding stages_of reserved_stages group_stage
  sections-stop u = rw (ne_eqb (reserved o a).reserved.number 0 u)

  pub sections-pass : (reserved o a).reserved.number ≡ 0 → end o a ≡ filter_stage (object o a) (marked o a)
  unfolding stages_of reserved_stages group_stage merge_groups_of
  sections-pass z = rw (eq-eqb (reserved o a).reserved.number 0 z)

  pub groups-stop : (grouped o a).stage.number ≢ 0 → filter_stage (object o a) (marked o a) ≡ marked o a
  unfolding filter_stage
  groups-stop u = rw (ne_eqb (grouped o a).stage.number 0 u)

  abbrev pub filtered : ℕ
  filtered = filter_of (marked o a).stage.link.gabi (marked o a).work (object o a).entries

  pub filter-stop : (grouped o a).stage.number ≡ 0 → ltb filtered (rows_in (object o a).entries) ≡ true → filter_stage (object o a) (marked o a) ≡ stop (marked o a) 8 filtered
  unfolding filter_stage filtered_of
  filter-stop z t = rw (eq-eqb (grouped o a).stage.number 0 z, t)

  pub filter-pass : (grouped o a).stage.number ≡ 0 → ltb filtered (rows_in (object o a).entries) ≡ false
      → filter_stage (object o a) (marked o a) ≡ put_symbols (marked o a) (build_stage (object o a) (marked o a).work (with_added o a (added o a)))
  unfolding filter_stage filtered_of merge_table_of
  filter-pass z t = rw (eq-eqb (grouped o a).stage.number 0 z, t)

  pub symbols-stop : (added o a).stage.number ≢ 0 → build_stage (object o a) (marked o a).work (with_added o a (added o a)) ≡ with_added o a (added o a)
  unfolding build_stage
  symbols-stop u = rw (ne_eqb (added o a).stage.number 0 u)

  pub symbols-pass : (added o a).stage.number ≡ 0 → build_stage (object o a) (marked o a).work (with_added o a (added o a)) ≡ with_built (with_added o a (added o a)) (program_stage (builder o a) (before1 o a))
  unfolding build_stage built_of
  symbols-pass z = rw (eq-eqb (added o a).stage.number 0 z)

  pub program-stop : (before1 o a).stage.number ≢ 0 → program_stage (builder o a) (before1 o a) ≡ before1 o a
  unfolding program_stage
  program-stop u = rw (ne_eqb (before1 o a).stage.number 0 u)

  pub program-pass : (before1 o a).stage.number ≡ 0 → program_stage (builder o a) (before1 o a) ≡ input_stage (before0 o a)
  unfolding program_stage
  program-pass z = rw (eq-eqb (before1 o a).stage.number 0 z)

  pub input-stop : (before0 o a).stage.number ≢ 0 → input_stage (before0 o a) ≡ before0 o a
  unfolding input_stage
  input-stop u = rw (ne_eqb (before0 o a).stage.number 0 u)

  pub input-pass : (before0 o a).stage.number ≡ 0 → input_stage (before0 o a) ≡ with_input (before0 o a) (input_row_of (before0 o a).inputs (before0 o a).stage.link)
  unfolding input_stage
  input-pass z = rw (eq-eqb (before0 o a).stage.number 0 z)

  -- ---- each place

  from-sections : (reserved o a).reserved.number ≢ 0 → Stops
  unfolding Reserve.reserve_all_of
  from-sections u =
      let first : Reserve.State = reserve_first a in
      let r =
      loop-left (λ (t : Reserve.State). t.reserved.number) (Reserve.reserve_one_of o.headers) SectionLeft (λ s n z u. section-left o.headers s n u)
      (rows_in o.headers) (sections_to o a) first (λ n. reserve-loop o.headers n 0 first) refl u in
      let e : number o a ≡ (reserved o a).reserved.number = ap (λ (a : All). a.stage.number) (sections-stop u) in
      in-sections r.n r.below r.goes (rw e r.leaves.number) (sections-stop u ∙ rw e (ap (after_sections a) r.leaves.as_it_was))

  from-groups : (reserved o a).reserved.number ≡ 0 → (grouped o a).stage.number ≢ 0 → Stops
  unfolding Group.groups_of
  from-groups z u =
      let first : Group.Step = group_first (prepared o a) in
      let reader : Group.Object = group_object (object o a) in
      let r =
      loop-left (λ (t : Group.Step). t.stage.number) (Group.group_section_of reader) GroupLeft (group-left reader) (rows_in o.headers) (groups_to o a) first
      (λ n. groups-loop reader n 0 first) refl u in
      let q : end o a ≡ marked o a = sections-pass z ∙ groups-stop u in
      let e : number o a ≡ (grouped o a).stage.number = ap (λ (a : All). a.stage.number) q in
      in-groups r.n r.below r.goes (rw e r.leaves.number) (q ∙ rw e (ap (after_groups (prepared o a)) r.leaves.as_it_was))

  from-symbols : (reserved o a).reserved.number ≡ 0 → (grouped o a).stage.number ≡ 0 → ltb filtered (rows_in (object o a).entries) ≡ false
      → end o a ≡ put_symbols (marked o a) (build_stage (object o a) (marked o a).work (with_added o a (added o a))) → (added o a).stage.number ≢ 0 → Stops
  unfolding Symbols.symbols_of
  from-symbols z y c q u =
      let first : Symbols.State = symbol_first (symbols_in (marked o a)) in
      let r =
      loop-left (λ (t : Symbols.State). t.stage.number) (Symbols.symbol_of (symbol_reader o a)) (SymbolLeft (symbol_reader o a)) (λ s i z u. symbol-left (symbol_reader o a) s i u)
      (rows_in (object o a).entries) (symbols_to o a) first (λ n. symbols-loop (symbol_reader o a) n 0 first) refl u in
      in-symbols r.n (added o a) z y c r.below r.goes r.is r.leaves (q ∙ ap (put_symbols (marked o a)) (symbols-stop u))

  module _ (q : end o a ≡ with_build o a (program_stage (builder o a) (before1 o a))) where
    from-uninitialized : (before1 o a).stage.number ≢ 0 → Stops
    unfolding Build.build_of
    from-uninitialized u =
        let first : Build.State = building (before2 o a) in
        let r =
        loop-left (λ (t : Build.State). t.stage.number) (λ (t : Build.State) (n : ℕ). Build.section_of (builder o a) t n 2) (BuildLeft (builder o a) 2) (λ s n z u. build-left (builder o a) s n 2 z u)
        (rows_in o.headers) (uninitialized_to o a) first (λ n. build-loop (builder o a) 2 n 0 first) refl u in
        in-uninitialized r.n (Build.build_of (builder o a) first 2) r.below r.goes r.leaves (q ∙ ap (with_build o a) (program-stop u))

    from-program : (before1 o a).stage.number ≡ 0 → (before0 o a).stage.number ≢ 0 → Stops
    unfolding Build.build_of
    from-program z u =
        let first : Build.State = building (before1 o a) in
        let r =
        loop-left (λ (t : Build.State). t.stage.number) (λ (t : Build.State) (n : ℕ). Build.section_of (builder o a) t n 1) (BuildLeft (builder o a) 1) (λ s n z u. build-left (builder o a) s n 1 z u)
        (rows_in o.headers) (program_to o a) first (λ n. build-loop (builder o a) 1 n 0 first) z u in
        in-program r.n (Build.build_of (builder o a) first 1) r.below r.goes r.leaves (q ∙ ap (with_build o a) (program-pass z ∙ input-stop u))

    from-input : (before1 o a).stage.number ≡ 0 → (before0 o a).stage.number ≡ 0 → number o a ≢ 0 → Stops
    unfolding input_row_of
    from-input z y u =
        let l : Link = (before0 o a).stage.link in
        let e : end o a ≡ with_build o a (with_input (before0 o a) (input_row_of (before0 o a).inputs l)) = q ∙ ap (with_build o a) (program-pass z ∙ input-pass y) in
        by-test (ltb l.inputs (input_rows (length (before0 o a).inputs)))
        (λ t. absurd (u (ap (λ (a : All). a.stage.number) e ∙ rw t))) (λ t. in-input y (e ∙ rw t))

  pub stops : number o a ≢ 0 → Stops
  stops u =
      by-test (eqb (reserved o a).reserved.number 0)
      (λ t.
      let z = eqb-true _ _ t in
      by-test (eqb (grouped o a).stage.number 0)
      (λ b.
      let y = eqb-true _ _ b in
      by-test (ltb filtered (rows_in (object o a).entries)) (λ c. in-filter (ltb-true _ _ c) y (sections-pass z ∙ filter-stop y c))
      (λ c.
      let q = sections-pass z ∙ filter-pass y c in
      by-test (eqb (added o a).stage.number 0)
      (λ d.
      let p = q ∙ ap (put_symbols (marked o a)) (symbols-pass (eqb-true _ _ d)) in
      by-test (eqb (before1 o a).stage.number 0)
      (λ e.
      by-test (eqb (before0 o a).stage.number 0) (λ f. from-input p (eqb-true _ _ e) (eqb-true _ _ f) u) (λ f. from-program p (eqb-true _ _ e) (eqb-false _ _ f)))
      (λ e. from-uninitialized p (eqb-false _ _ e)))
      (λ d. from-symbols z y c q (eqb-false _ _ d))))
      (λ b. from-groups z (eqb-false _ _ b)))
      (λ a. from-sections (eqb-false _ _ a))
