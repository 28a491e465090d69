-- 17 of an object's symbol: what an add of its row answers where the symbols before it have led.
-- Assumes nothing.
use Prim.Native.Nat.{ℕ, ◌+◌, ◌≤◌}
use Rattle.std.proofs.Common.{zero-add, ◌∙◌, subst}
use native.Mathlib.Omega.{arith}
use Rattle.std.proofs.Math.Path.{◌≡◌, refl, sym, ap}
use Rattle.std.specs.Prelude.{Bool, true, false, ◌≢◌, eqb, ltb, length}
use Rattle.std.proofs.lemmas.Bool.{false≢true}
use mathlib.Core.List.{List, [], ◌∷◌, ◌++◌, append_assoc}
use borrow.Author.Tests.{eqb-true, eqb-false, eq-eqb, ltb-false, le-ltb}
use Rattle.cells.specs.Proof.Split.{by-test}
use Rattle.link.specs.Judge.{refused}
use Rattle.gabi.specs.SymbolTable.{Sym}
use Rattle.gabi.specs.Resolution.{duplicate, resolve}
use Rattle.interner.specs.Names.{fits_of}
use Rattle.symbol.specs.Row.{scope_refused, value_refused}
use Rattle.upcoming_symbol.specs.Upcoming.{conversion_from, elf_row_of}
use Rattle.symbol_resolution.specs.Decision.{Decision}
use Rattle.symbol_resolution.specs.Decide.{refusal_of}
use Rattle.elf_object.specs.Rows.{rows_in, conversion_at}
use Rattle.section_groups.specs.Filter.{filter_of}
use Rattle.merge_symbols.specs.Plan.{Planned}
use Rattle.merge_symbols.specs.Plan.{Input, is_first, defines_of, filtered_at, rule_of, judged_of, rowed_of, read_of, planned_of, place_of}
use Rattle.merge_symbols.specs.Stage as Symbols
use Rattle.merge_symbols.specs.Stage.{accept_row, kept_of, commit_of, view, symbol_named, looked_of, symbol_of}
use Rattle.merge_build.specs.Build as Build
use Rattle.merge_stages.specs.Stages.{All, Object, group_object, symbols_in, put_symbols}
use Rattle.merge_elf.specs.Merge.{head_in, merge_of}
use Rattle.merge_elf.specs.Merge as Merge
use Rattle.symbol_laws.specs.History.{State, store, Entry, only, rows, id_of}
use Rattle.symbol_laws.proofs.History.{log-append}
use Rattle.symbol_laws.specs.Held.{Inv}
use Rattle.symbol_laws.specs.Gabi.{Means, AllMean, sym_of}
use Rattle.symbol_laws.proofs.Gabi.{elf-means}
use Rattle.merge_laws.specs.Steps.{Step, others, step_next, step_notes, run_steps, log_steps, Makes}
use Rattle.merge_laws.proofs.Steps.{makes_both}
use Rattle.merge_laws.proofs.Beside.{others-make}
use Rattle.merge_laws.proofs.Placed.{reserve-beside}
use Rattle.merge_laws.specs.Loop.{loop_steps}
use Rattle.merge_laws.proofs.Loop.{loop, loop-ends, steps-split}
use Rattle.merge_laws.specs.MergeSteps.{adds_of, adds, symbol_steps, groups_steps, build_stage_steps, symbol_first, table_steps, filtered_steps, filter_steps, group_first, merge_groups_steps, group_stage_steps, reserved_steps, reserve_first, stages_steps, merge_steps}
use Rattle.merge_laws.proofs.GroupStageLemmas.{groups-make}
use Rattle.merge_laws.specs.SymbolStage.{number_of}
use Rattle.merge_laws.proofs.SymbolStage.{chosen, chosen-fits}
use Rattle.merge_laws.proofs.SymbolStageLemmas.{symbols-loop, symbols-make-to}
use Rattle.merge_laws.specs.SymbolStage as SymbolStage
use Rattle.merge_laws.specs.SymbolIds.{is_dropped, name_of, plan_of}
use Rattle.merge_laws.specs.Whole.{table_in}
use Rattle.merge_laws.proofs.Kept.{steps-keep}
use Rattle.merge_laws.proofs.Refusals.{Fields, row-fields}
use Rattle.merge_laws.proofs.Refusals as Refusals
use Rattle.merge_laws.specs.Stops.{reserved, object, prepared, grouped, marked, symbol_reader, added, with_added, symbols_to, end}
use Rattle.merge_laws.proofs.Stops.{Stops, in-sections, in-groups, in-filter, in-symbols, in-uninitialized, in-program, in-input, stops, sections-pass, filter-pass, symbols-stop}
use Rattle.merge_laws.specs.Stops as Stops
use Rattle.merge_laws.proofs.ByNumber.{head-leaves, refused-breaks, accepted-stays}
use Rattle.merge_laws.proofs.Duplicates as Duplicates
use Rattle.merge_laws.proofs.Duplicates.{judged, Held, seventeen-held}
use Rattle.merge_laws.specs.Table.{one_of, section_numbers, group_numbers, new_numbers, built_numbers, merge_head_numbers}
use Rattle.merge_laws.specs.SymbolDuplicates.{input, steps_to, past_to, symbol_number, row_to, entry_to, Adds, Comes, RefusedAt, LogBegins}

-- ---- one symbol, from the state that the symbols before it left

chosen-all : (f g h : Bool) (d : Decision) → adds_of f g h ≡ true → chosen true f g h d ≡ d
unfolding adds_of
chosen-all true g h d a = absurd (false≢true a)
chosen-all false true h d a = absurd (false≢true a)
chosen-all false false true d a = absurd (false≢true a)
chosen-all false false false d a = refl

chosen-other : (w f g h : Bool) (d : Decision) → adds_of f g h ≡ false → refusal_of (chosen w f g h d) ≡ 17 → ⊥
unfolding adds_of
chosen-other false f g h d a q = omega arith
chosen-other true true g h d a q = omega arith
chosen-other true false true h d a q = omega arith
chosen-other true false false true d a q = omega arith
chosen-other true false false false d a q = false≢true (sym a)

no-file : (f g h : Bool) → adds_of f g h ≡ true → g ≡ false
unfolding adds_of
no-file true g h a = absurd (false≢true a)
no-file false true h a = absurd (false≢true a)
no-file false false h a = refl

module _ (o : Input) (s : Symbols.State) (x : List ℕ) (i : ℕ) where
  abbrev plan : Planned
  plan = planned_of (view s) o x i s.stage.file

  plan-own : plan.row.name ≡ id_of (SymbolStage.table_in s) x
  unfolding planned_of read_of rowed_of elf_row_of
  plan-own = refl

  abbrev first : Bool
  first = is_first i (eqb (length x) 0) (filtered_at o.entries o.work i)

  abbrev file : Bool
  file = eqb (filtered_at o.entries o.work i).kind 4

  abbrev group : Bool
  group = defines_of o.work (filtered_at o.entries o.work i).section

  plan-judged : adds o x i ≡ true → fits_of (store (SymbolStage.table_in s)) plan.row.name (length x) ≡ true
      → plan.decision ≡ judged (SymbolStage.table_in s) x plan.row plan-own
  unfolding planned_of read_of rowed_of judged_of rule_of elf_row_of
  plan-judged b w = rw w (chosen-all first file group _ b)

  plan-other : adds o x i ≡ false → refusal_of plan.decision ≡ 17 → ⊥
  unfolding planned_of read_of rowed_of judged_of rule_of elf_row_of
  plan-other b q =
      let t : State = SymbolStage.table_in s in
      chosen-other (fits_of (store t) (id_of t x) (length x)) first file group (judged t x plan.row plan-own) b q

  plan-room : eqb (refusal_of plan.decision) 2 ≡ false → fits_of (store (SymbolStage.table_in s)) plan.row.name (length x) ≡ true
  unfolding planned_of read_of rowed_of judged_of rule_of elf_row_of
  plan-room e =
      let t : State = SymbolStage.table_in s in
      chosen-fits (fits_of (store t) (id_of t x) (length x)) first file group (judged t x plan.row plan-own) e

  plan-fields : adds o x i ≡ true → Fields new_numbers plan.row
  unfolding planned_of read_of rowed_of
  plan-fields b = row-fields (view s) o x i s.stage.file (no-file first file group b)

  named-number : (symbol_named o s x i).stage.number ≡ refusal_of plan.decision
  unfolding symbol_named commit_of kept_of accept_row
  named-number =
      by-test (eqb (refusal_of plan.decision) 2) (λ t. rw t (sym (eqb-true _ _ t)))
      (λ t. by-test (eqb (refusal_of plan.decision) 0) (λ z. rw (t, z) (sym (eqb-true _ _ z))) (λ z. rw (t, z)))

  named-place : refusal_of plan.decision ≡ 17 → (symbol_named o s x i).stage.place ≡ i
  unfolding symbol_named commit_of kept_of place_of
  named-place q = rw q

module _ (o : Symbols.Object) (s : Symbols.State) (i : ℕ) where
  symbol-number : is_dropped o s i ≡ false → (name_of o i).found ≡ true → (symbol_of o s i).stage.number ≡ refusal_of (plan_of o s i).decision
  unfolding symbol_of looked_of
  symbol-number k f = rw (k, f) (named-number (input o) s (name_of o i).name i)

  symbol-place : is_dropped o s i ≡ false → (name_of o i).found ≡ true → refusal_of (plan_of o s i).decision ≡ 17 → (symbol_of o s i).stage.place ≡ i
  unfolding symbol_of looked_of
  symbol-place k f q = rw (k, f) (named-place (input o) s (name_of o i).name i q)

  -- 17 is no number of a symbol that isn't added
  symbol-kept : (symbol_of o s i).stage.number ≡ 17 → is_dropped o s i ≡ false
  unfolding symbol_of
  symbol-kept q = by-test (is_dropped o s i) (λ t. let z : ◌≡◌ {A = ℕ} 0 17 = rw t at q in absurd (omega arith)) (λ t. t)

  symbol-found : (symbol_of o s i).stage.number ≡ 17 → (name_of o i).found ≡ true
  unfolding symbol_of looked_of
  symbol-found q = by-test (name_of o i).found (λ t. t) (λ t. let z : ◌≡◌ {A = ℕ} 9 17 = rw (symbol-kept q, t) at q in absurd (omega arith))

  symbol-adds : (symbol_of o s i).stage.number ≡ 17 → adds (input o) (name_of o i).name i ≡ true
  symbol-adds q =
      by-test (adds (input o) (name_of o i).name i) (λ t. t)
      (λ t. absurd (plan-other (input o) s (name_of o i).name i t (sym (symbol-number (symbol-kept q) (symbol-found q)) ∙ q)))

-- ---- a merge: what it has done before symbol i

module _ (o : Object) (a : All) where
  abbrev pub table_to : ℕ → State
  table_to i = SymbolStage.table_in (symbols_to o a i)

  pub steps-make : (i : ℕ) → Makes (table_in a) (steps_to o a i) (table_to i)
  steps-make i =
      makes_both (table_in a) (table_in (prepared o a)) (table_to i) (others (reserved o a).sections (reserved o a).reserved.link ∷ []) _
      (others-make (table_in a) (reserved o a).sections (reserved o a).reserved.link (reserve-beside o.headers (reserve_first a)))
      (makes_both (table_in (prepared o a)) (table_in (marked o a)) (table_to i) (groups_steps (group_object (object o a)) (group_first (prepared o a))) _
      (groups-make a.symbols (reserved o a).sections (group_object (object o a)) (group_first (prepared o a)))
      (symbols-make-to (symbol_reader o a) i (symbol_first (symbols_in (marked o a)))))

  pub row-means : (i : ℕ) → (row_to o a i).scope ≢ 0 → scope_refused (row_to o a i) ≡ false → value_refused (row_to o a i) ≡ false → Means (row_to o a i) (sym_of (entry_to o a i))
  unfolding planned_of read_of rowed_of
  row-means i z p v =
      let x : List ℕ = (name_of (symbol_reader o a) i).name in
      elf-means (conversion_from (conversion_at (marked o a).work (entry_to o a i).section)) (entry_to o a i) (id_of (table_to i) x) (eqb (length x) 0) (symbols_to o a i).stage.file z p v

  module _ (past : List Entry) (inv : Inv (table_in a) past) (i : ℕ) where
    kept-to : Inv (table_to i) (past_to o a past i)
    kept-to = subst (λ (t : State). Inv t (past_to o a past i)) (steps-make i).leads (steps-keep (steps_to o a i) (table_in a) past inv)

    module _ (is : Adds o a i) where
      abbrev name : List ℕ
      name = (name_of (symbol_reader o a) i).name

      abbrev own : (row_to o a i).name ≡ id_of (table_to i) name
      own = plan-own (input (symbol_reader o a)) (symbols_to o a i) name i

      number-judged : fits_of (store (table_to i)) (row_to o a i).name (length name) ≡ true → symbol_number o a i ≡ refusal_of (judged (table_to i) name (row_to o a i) own)
      number-judged w =
          symbol-number (symbol_reader o a) (symbols_to o a i) i is.kept is.found
          ∙ ap (λ (d : Decision). refusal_of d) (plan-judged (input (symbol_reader o a)) (symbols_to o a i) name i is.added w)

      -- 17 itself says that its name has accepted adds, and that it is global and passes
      pub held_at : symbol_number o a i ≡ 17 → Held new_numbers refl (table_to i) (past_to o a past i) (row_to o a i)
      held_at q =
          let k : refusal_of (plan_of (symbol_reader o a) (symbols_to o a i) i).decision ≡ 17 = sym (symbol-number (symbol_reader o a) (symbols_to o a i) i is.kept is.found) ∙ q in
          let two : eqb (refusal_of (plan_of (symbol_reader o a) (symbols_to o a i) i).decision) 2 ≡ false = rw k in
          let w = plan-room (input (symbol_reader o a)) (symbols_to o a i) name i two in
          seventeen-held new_numbers refl (table_to i) (past_to o a past i) kept-to (row_to o a i)
          (plan-fields (input (symbol_reader o a)) (symbols_to o a i) name i is.added) (sym (number-judged w) ∙ q)

      module _ (y : Entry) (ys : List Entry) (e : only (row_to o a i).name.0 (past_to o a past i) ≡ y ∷ ys) where
        number_is : symbol_number o a i ≡ refusal_of (judged (table_to i) name (row_to o a i) own)
        number_is = number-judged (Duplicates.fits (table_to i) name (row_to o a i) own (past_to o a past i) kept-to y ys e)

        module _ (global : (row_to o a i).scope ≢ 0) (passes : scope_refused (row_to o a i) ≡ false) (valued : value_refused (row_to o a i) ≡ false)
            (g : Sym) (gs : List Sym) (m : AllMean (rows (y ∷ ys)) (g ∷ gs)) (h : Sym) (mine : Means (row_to o a i) h) where
          pub refused-duplicate : symbol_number o a i ≡ 17 → resolve ((g ∷ gs) ++ (h ∷ [])) ≡ duplicate
          refused-duplicate q =
              Duplicates.refused-duplicate (table_to i) name (row_to o a i) own (past_to o a past i) kept-to y ys e global passes valued g gs m h mine (sym number_is ∙ q)

          pub duplicate-refused : resolve ((g ∷ gs) ++ (h ∷ [])) ≡ duplicate → symbol_number o a i ≡ 17
          duplicate-refused d =
              number_is ∙ Duplicates.duplicate-refused (table_to i) name (row_to o a i) own (past_to o a past i) kept-to y ys e global passes valued g gs m h mine d

  -- ---- the call's 17 is a symbol's

  refused-at : (i : ℕ) → Comes o a i → symbol_number o a i ≡ 17 → RefusedAt o a i
  refused-at i c q =
      record {
        comes = c;
        refuses = q;
        adds =
            record {
              kept = symbol-kept (symbol_reader o a) (symbols_to o a i) i q;
              found = symbol-found (symbol_reader o a) (symbols_to o a i) i q;
              added = symbol-adds (symbol_reader o a) (symbols_to o a i) i q;
            };
      }

  place_at : (i : ℕ) → symbol_number o a i ≡ 17 → (symbol_of (symbol_reader o a) (symbols_to o a i) i).stage.place ≡ i
  place_at i q =
      let k = symbol-kept (symbol_reader o a) (symbols_to o a i) i q in
      let f = symbol-found (symbol_reader o a) (symbols_to o a i) i q in
      symbol-place (symbol_reader o a) (symbols_to o a i) i k f (sym (symbol-number (symbol_reader o a) (symbols_to o a i) i k f) ∙ q)

  none_of : {P : Type 0} (l : List ℕ) → one_of 17 l ≡ false → one_of (Stops.number o a) l ≡ true → Stops.number o a ≡ 17 → P
  none_of l d e q = absurd (false≢true (sym d ∙ ap (λ (k : ℕ). one_of k l) (sym q) ∙ e))

  built-other : {P : Type 0} {b : Build.Object} {kind : ℕ} {s t : Build.State} {n : ℕ} → Refusals.BuildLeft b kind s t n → t.stage.number ≡ 17 → P
  built-other (Refusals.as_it_was k e) q = absurd (false≢true (ap (λ (k : ℕ). one_of k built_numbers) (sym q) ∙ k))
  built-other (Refusals.but-its-name c f k e) q = absurd (nineteen (sym k ∙ q))
    where
      nineteen : ◌≡◌ {A = ℕ} 19 17 → ⊥
      nineteen z = omega arith

  stopped-at : (head_in o a).number ≡ 0 → Stops.number o a ≡ 17 → Stops o a → RefusedAt o a (end o a).stage.place
  stopped-at d q (in-sections n h z k e) = none_of section_numbers refl k q
  stopped-at d q (in-groups n h z k e) = none_of group_numbers refl k q
  stopped-at d q (in-filter h z e) = let w : ◌≡◌ {A = ℕ} 8 17 = sym (ap (λ (t : All). t.stage.number) e) ∙ q in absurd (omega arith)
  stopped-at d q (in-symbols i t x y f h z w l e) =
      let k : symbol_number o a i ≡ 17 = sym (ap (λ (t : All). t.stage.number) e ∙ ap (λ (t : Symbols.State). t.stage.number) w) ∙ q in
      let p : (end o a).stage.place ≡ i = ap (λ (t : All). t.stage.place) e ∙ ap (λ (t : Symbols.State). t.stage.place) w ∙ place_at i k in
      subst (RefusedAt o a) (sym p)
      (refused-at i (record { head = d; sections = x; groups = y; filter = ltb-false _ _ f; below = h; going = z }) k)
  stopped-at d q (in-uninitialized n t h z l e) = built-other l (sym (ap (λ (t : All). t.stage.number) e) ∙ q)
  stopped-at d q (in-program n t h z l e) = built-other l (sym (ap (λ (t : All). t.stage.number) e) ∙ q)
  stopped-at d q (in-input z e) = let w : ◌≡◌ {A = ℕ} 2 17 = sym (ap (λ (t : All). t.stage.number) e) ∙ q in absurd (omega arith)

  pub merge-refused-at : (merge_of o a).said.number ≡ 17 → RefusedAt o a (merge_of o a).said.place
  merge-refused-at q =
      by-test (eqb (head_in o a).number 0)
      (λ h.
      by-test (eqb (Stops.number o a) 0) (λ z. absurd (accepted (eqb-true _ _ h) (eqb-true _ _ z)))
      (λ z.
      let e = refused-breaks o a (eqb-true _ _ h) (eqb-false _ _ z) in
      let k : Stops.number o a ≡ 17 = sym (ap (λ (x : Merge.Left). x.said.number) e) ∙ q in
      subst (RefusedAt o a) (sym (ap (λ (x : Merge.Left). x.said.place) e)) (stopped-at (eqb-true _ _ h) k (stops o a (eqb-false _ _ z)))))
      (λ h.
      let e = head-leaves o a (eqb-false _ _ h) in
      let k : (head_in o a).number ≡ 17 = sym (ap (λ (x : Merge.Left). x.said.number) e.all) ∙ q in
      absurd (false≢true (ap (λ (n : ℕ). one_of n merge_head_numbers) (sym k) ∙ e.number)))
    where
      accepted : (head_in o a).number ≡ 0 → Stops.number o a ≡ 0 → ⊥
      accepted h z = let w : ◌≡◌ {A = ℕ} 0 17 = sym (ap (λ (x : Merge.Left). x.said.number) (accepted-stays o a h z).all) ∙ q in omega arith

  -- and a symbol's 17 is the call's
  pub merge-ends-at : (i : ℕ) → Comes o a i → symbol_number o a i ≡ 17 → (merge_of o a).said ≡ refused 17 i
  unfolding Symbols.symbols_of
  merge-ends-at i c q =
      let first : Symbols.State = symbol_first (symbols_in (marked o a)) in
      let r : Symbols.Object = symbol_reader o a in
      let n : ℕ = rows_in (object o a).entries in
      let at : symbols_to o a i ≡ loop number_of (symbol_of r) i 0 first = symbols-loop r i 0 first in
      let here : symbol_of r (symbols_to o a i) i ≡ symbol_of r (loop number_of (symbol_of r) i 0 first) (0 + i) =
      ap (λ (t : Symbols.State). symbol_of r t i) at ∙ ap (symbol_of r (loop number_of (symbol_of r) i 0 first)) (sym (zero-add i)) in
      let last : added o a ≡ symbol_of r (symbols_to o a i) i =
      symbols-loop r n 0 first
      ∙ loop-ends number_of (symbol_of r) i n 0 first c.below (ap number_of (sym at) ∙ c.going) (λ z. seventeen (sym q ∙ ap number_of here ∙ z))
      ∙ sym here in
      let k : (added o a).stage.number ≡ 17 = ap number_of last ∙ q in
      let e : end o a ≡ put_symbols (marked o a) (with_added o a (added o a)) =
      sections-pass o a c.sections ∙ filter-pass o a c.groups (le-ltb _ _ c.filter)
      ∙ ap (put_symbols (marked o a)) (symbols-stop o a (λ z. seventeen (sym k ∙ z))) in
      let number : Stops.number o a ≡ 17 = ap (λ (t : All). t.stage.number) e ∙ k in
      let place : (end o a).stage.place ≡ i = ap (λ (t : All). t.stage.place) e ∙ ap (λ (t : Symbols.State). t.stage.place) last ∙ place_at i q in
      ap (λ (x : Merge.Left). x.said) (refused-breaks o a c.head (λ z. seventeen (sym number ∙ z))) ∙ rw (number, place)
    where
      seventeen : ◌≡◌ {A = ℕ} 17 0 → ⊥
      seventeen z = omega arith

  -- ---- what was done before the symbol is the beginning of what the merge does

  pub record Begins (i : ℕ) : Type 0 where
    pub rest : List Step
    pub is : merge_steps o a ≡ steps_to o a i ++ rest

  joined : (g s r b e : List Step) → (g ++ ((s ++ r) ++ b)) ++ e ≡ (g ++ s) ++ ((r ++ b) ++ e)
  joined g s r b e =
      ap (λ (l : List Step). (g ++ l) ++ e) (append_assoc s r b) ∙ ap (λ (l : List Step). l ++ e) (sym (append_assoc g s (r ++ b)))
      ∙ append_assoc (g ++ s) (r ++ b) e

  pub steps-begin-to : (i : ℕ) → (head_in o a).number ≡ 0 → (reserved o a).reserved.number ≡ 0 → (grouped o a).stage.number ≡ 0
      → ltb (filter_of (marked o a).stage.link.gabi (marked o a).work (object o a).entries) (rows_in (object o a).entries) ≡ false → i ≤ rows_in (object o a).entries
      → (symbols_to o a i).stage.number ≡ 0 → Begins i
  unfolding merge_steps stages_steps reserved_steps group_stage_steps merge_groups_steps filter_steps filtered_steps table_steps
  steps-begin-to i head sections groups-go filter small going =
      let first : Symbols.State = symbol_first (symbols_in (marked o a)) in
      let r : Symbols.Object = symbol_reader o a in
      let n : ℕ = rows_in (object o a).entries in
      let k = steps-split number_of (symbol_of r) (symbol_steps r) i n 0 first small (ap number_of (sym (symbols-loop r i 0 first)) ∙ going) in
      let reads : List Step = others (reserved o a).sections (reserved o a).reserved.link ∷ [] in
      let groups : List Step = groups_steps (group_object (object o a)) (group_first (prepared o a)) in
      let symbols : List Step = loop_steps number_of (symbol_of r) (symbol_steps r) i 0 first in
      let build : List Step = build_stage_steps (object o a) (marked o a).work (with_added o a (added o a)) in
      let last : List Step = others (end o a).sections (Merge.ended_as (end o a).stage).link ∷ [] in
      record {
        rest = (k.rest ++ build) ++ last;
        is =
            rw (
              eq-eqb (head_in o a).number 0 head,
              eq-eqb (reserved o a).reserved.number 0 sections,
              eq-eqb (grouped o a).stage.number 0 groups-go,
              filter,
            )
            (ap (λ (l : List Step). reads ++ ((groups ++ (l ++ build)) ++ last)) k.is
            ∙ ap (◌++◌ reads) (joined groups symbols k.rest build last));
      }

  pub steps-begin : (i : ℕ) → Comes o a i → Begins i
  steps-begin i c = steps-begin-to i c.head c.sections c.groups (le-ltb _ _ c.filter) (omega (arith, c.below)) c.going

  pub log-begins : (i : ℕ) → Comes o a i → LogBegins o a i
  log-begins i c =
      let b = steps-begin i c in
      record {
        rest = log_steps b.rest (run_steps (steps_to o a i) (table_in a));
        is = ap (λ (l : List Step). log_steps l (table_in a)) b.is ∙ log-append step_next step_notes (steps_to o a i) b.rest (table_in a);
      }
