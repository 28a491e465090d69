-- The accepted adds of a merge, refused or not: each is that of a symbol of the object, and its row has what the symbol's entry says.
-- Assumes nothing.
use Rattle.std.specs.Prelude.{ℕ, zero, suc, ◌+◌, ◌<◌, ◌≡◌, true, false, ◌≢◌, eqb, ltb}
use Rattle.std.proofs.Common.{arith, zero-add, ap, ◌∙◌, subst, eqb-true, ne_eqb, ltb-false, le-ltb}
use Rattle.std.proofs.Math.Path.{refl}
use mathlib.Core.List.{List, [], ◌∷◌, ◌++◌}
use Rattle.std.proofs.lemmas.Bool.{eqb-false}
use Rattle.cells.specs.Proof.Split.{by-test}
use Rattle.symbol.specs.declared.Row.{Row}
use Rattle.symbol_resolution.specs.Decision.{Decision}
use Rattle.symbol_resolution.specs.Decide.{refusal_of}
use Rattle.elf_object.specs.Rows.{rows_in}
use Rattle.section_groups.specs.Group.{group_section_of}
use Rattle.merge_symbols.specs.Plan.{input_of}
use Rattle.merge_symbols.specs.Stage as Symbols
use Rattle.merge_symbols.specs.Stage.{symbol_of, looked_of, symbol_named, commit_of, kept_of, accept_row}
use Rattle.merge_stages.specs.Stages.{All, Object, symbols_in, after_symbols}
use Rattle.merge_elf.specs.Merge.{head_in}
use Rattle.symbol_laws.specs.Rank as Rank
use Rattle.merge_laws.specs.Steps.{others}
use Rattle.merge_laws.specs.Loop.{loop_steps}
use Rattle.merge_laws.proofs.Loop.{loop, loop-next}
use Rattle.merge_laws.specs.MergeSteps.{adds, row_steps, named_steps, symbol_steps, group_section_steps, groups_steps, group_first, symbol_first, table_steps, filtered_steps, filter_steps, merge_groups_steps, group_stage_steps, reserved_steps, stages_steps, merge_steps}
use Rattle.merge_laws.specs.Marked.{Marked}
use Rattle.merge_laws.specs.Kept.{added_rows}
use Rattle.merge_laws.proofs.Markless.{added-append, loop-none}
use Rattle.merge_laws.specs.GroupStage as GroupStage
use Rattle.merge_laws.specs.SymbolStage.{number_of}
use Rattle.merge_laws.proofs.SymbolStageLemmas.{symbols-loop}
use Rattle.merge_laws.specs.SymbolIds.{is_dropped, name_of, plan_of}
use Rattle.merge_laws.specs.SymbolDuplicates.{row_to, Comes}
use Rattle.merge_laws.proofs.SymbolNames.{row_named}
use Rattle.merge_laws.proofs.FileNames.{row-file}
use Rattle.merge_laws.specs.Whole.{table_in}
use Rattle.merge_laws.specs.Stops.{reserved, object, prepared, grouped, marked, symbol_reader, symbols_to, added}
use Rattle.merge_laws.proofs.Stops.{filtered}
use Rattle.merge_laws.specs.FirstKept.{reader}
use Rattle.merge_laws.proofs.Accepted.{group-none, built-none}
use Rattle.merge_laws.proofs.WorkGroups.{symbols-are, bears-own}
use Rattle.merge_laws.proofs.ObjectContents as Contents
use Rattle.merge_laws.specs.LogContents.{FromSymbol}

-- ---- lists of rows

pub all_append : (P : Row → Type 0) (a b : List Row) → Rank.All P a → Rank.All P b → Rank.All P (a ++ b)
all_append P [] b p q = q
all_append P (x ∷ a) b p q = (p.0, all_append P a b p.1 q)

-- ---- one symbol's steps add its planned row, or none

module _ (o : Symbols.Object) (s : Symbols.State) (i : ℕ) (P : Row → Type 0) where
  symbol-rows : ((symbol_of o s i).stage.number ≡ 0 → is_dropped o s i ≡ false → (name_of o i).found ≡ true → adds (input_of o.entries o.work) (name_of o i).name i ≡ true → (plan_of o s i).row.scope ≢ 0 → P (plan_of o s i).row)
      → Rank.All P (added_rows (symbol_steps o s i))
  unfolding symbol_steps named_steps row_steps symbol_of looked_of symbol_named commit_of kept_of accept_row
  symbol-rows f =
      let d : Decision = (plan_of o s i).decision in
      by-test (is_dropped o s i) (λ k. rw k tt)
      (λ k.
      by-test (name_of o i).found
      (λ a.
      by-test (eqb (refusal_of d) 2) (λ b. rw (k, a, b) tt)
      (λ b.
      by-test (eqb (refusal_of d) 0)
      (λ c.
      by-test (adds (input_of o.entries o.work) (name_of o i).name i)
      (λ g.
      by-test (eqb (plan_of o s i).row.scope 0) (λ v. rw (k, a, b, c, g, v) tt)
      (λ v. let p : P (plan_of o s i).row = (rw (k, a, b, c) at f) refl refl refl g (eqb-false _ _ v) in rw (k, a, b, c, g, v) (p, tt)))
      (λ g. rw (k, a, b, c, g) tt))
      (λ c. rw (k, a, b, c) tt)))
      (λ a. rw (k, a) tt))

-- ---- the merge

module _ (o : Object) (a : All) (met : List (List ℕ)) where
  module _ (known : Marked (table_in a) met) where
    abbrev first : Symbols.State
    first = symbol_first (symbols_in (marked o a))

    abbrev next : Symbols.State → ℕ → Symbols.State
    next = symbol_of (symbol_reader o a)

    module _ (head : (head_in o a).number ≡ 0) (goes : (reserved o a).reserved.number ≡ 0) (passes : (grouped o a).stage.number ≡ 0) where
      from-symbol : (i : ℕ) → Comes o a i → (next (symbols_to o a i) i).stage.number ≡ 0 → is_dropped (symbol_reader o a) (symbols_to o a i) i ≡ false → (name_of (symbol_reader o a) i).found ≡ true
          → adds (input_of (object o a).entries (marked o a).work) (name_of (symbol_reader o a) i).name i ≡ true → (row_to o a i).scope ≢ 0 → FromSymbol o a met (row_to o a i)
      from-symbol i c z k f d g =
          let h = c.below in
          record {
            number = i;
            below = subst (λ (l : List ℕ). i < rows_in l) (symbols-are o a head goes) h;
            content = Contents.content o a head goes passes met known i h z k f d g;
            bytes = (name_of (symbol_reader o a) i).name;
            bears = bears-own o a head goes i h f;
            named = row_named o a met known i c z k f d;
            filed = row-file o a met known head goes passes (le-ltb _ _ c.filter) i h c.going;
          }

      -- the symbols from i on
      rows-from : ltb (filtered o a) (rows_in (object o a).entries) ≡ false → (n i : ℕ) → i + n ≡ rows_in (object o a).entries → number_of (loop number_of next i 0 first) ≡ 0
          → Rank.All (FromSymbol o a met) (added_rows (loop_steps number_of next (symbol_steps (symbol_reader o a)) n i (loop number_of next i 0 first)))
      rows-from filter zero i e z = tt
      rows-from filter (suc n) i e z =
          let t : Symbols.State = loop number_of next i 0 first in
          let same : symbols_to o a i ≡ t = symbols-loop (symbol_reader o a) i 0 first in
          let mine : Rank.All (FromSymbol o a met) (added_rows (symbol_steps (symbol_reader o a) t i)) =
          subst (λ (s : Symbols.State). Rank.All (FromSymbol o a met) (added_rows (symbol_steps (symbol_reader o a) s i))) same
          (symbol-rows (symbol_reader o a) (symbols_to o a i) i (FromSymbol o a met)
          (from-symbol i
          (record {
            head = head;
            sections = goes;
            groups = passes;
            filter = ltb-false _ _ filter;
            below = omega arith;
            going = ap number_of same ∙ z;
          }))) in
          by-test (eqb (number_of (next t i)) 0)
          (λ b.
          let k : loop number_of next (i + 1) 0 first ≡ next t i =
          ap (λ (j : ℕ). loop number_of next j 0 first) (let q : i + 1 ≡ suc i = omega arith in q) ∙ loop-next number_of next i 0 first z ∙ ap (next t) (zero-add i) in
          rw (b, added-append (symbol_steps (symbol_reader o a) t i) (loop_steps number_of next (symbol_steps (symbol_reader o a)) n (i + 1) (next t i)))
          (all_append (FromSymbol o a met) (added_rows (symbol_steps (symbol_reader o a) t i)) _ mine
          (subst (λ (s : Symbols.State). Rank.All (FromSymbol o a met) (added_rows (loop_steps number_of next (symbol_steps (symbol_reader o a)) n (i + 1) s))) k
          (rows-from filter n (i + 1) (omega arith) (ap number_of k ∙ eqb-true _ _ b)))))
          (λ b. rw b mine)

      table-rows : ltb (filtered o a) (rows_in (object o a).entries) ≡ false → Rank.All (FromSymbol o a met) (added_rows (table_steps (object o a) (marked o a).work (symbols_in (marked o a))))
      unfolding table_steps
      table-rows filter =
          let build = after_symbols (symbols_in (marked o a)) (added o a) in
          rw (added-append (loop_steps number_of next (symbol_steps (symbol_reader o a)) (rows_in (object o a).entries) 0 first) _, built-none (object o a) (marked o a).work build)
          (all_append (FromSymbol o a met) (added_rows (loop_steps number_of next (symbol_steps (symbol_reader o a)) (rows_in (object o a).entries) 0 first)) [] (rows-from filter (rows_in (object o a).entries) 0 (zero-add _) refl) tt)

      filter-rows : Rank.All (FromSymbol o a met) (added_rows (filter_steps (object o a) (marked o a)))
      unfolding filter_steps filtered_steps
      filter-rows =
          by-test (eqb (grouped o a).stage.number 0)
          (λ b. by-test (ltb (filtered o a) (rows_in (object o a).entries)) (λ c. rw (b, c) tt) (λ c. rw (b, c) (table-rows c))) (λ b. rw b tt)

    -- groups refused: no symbol is come to
    filter_none : (grouped o a).stage.number ≢ 0 → Rank.All (FromSymbol o a met) (added_rows (filter_steps (object o a) (marked o a)))
    unfolding filter_steps
    filter_none u = rw (ne_eqb _ _ u) tt

    groups-rows : (head_in o a).number ≡ 0 → (reserved o a).reserved.number ≡ 0 → Rank.All (FromSymbol o a met) (added_rows (merge_groups_steps (object o a) (prepared o a)))
    unfolding merge_groups_steps
    groups-rows head goes =
        rw (added-append (groups_steps (reader o a) (group_first (prepared o a))) (filter_steps (object o a) (marked o a)), loop-none GroupStage.number_of (group_section_of (reader o a)) (group_section_steps (reader o a)) (group-none (reader o a)) (rows_in o.headers) 0 (group_first (prepared o a)))
        (by-test (eqb (grouped o a).stage.number 0) (λ b. filter-rows head goes (eqb-true _ _ b)) (λ b. filter_none (eqb-false _ _ b)))

    pub merge-logged : Rank.All (FromSymbol o a met) (added_rows (merge_steps o a))
    unfolding merge_steps stages_steps reserved_steps group_stage_steps
    merge-logged =
        by-test (eqb (head_in o a).number 0)
        (λ b.
        rw (b, added-append (stages_steps o a) (others _ _ ∷ []))
        (all_append (FromSymbol o a met) (added_rows (stages_steps o a)) []
        (by-test (eqb (reserved o a).reserved.number 0) (λ c. rw c (groups-rows (eqb-true _ _ b) (eqb-true _ _ c))) (λ c. rw c tt)) tt))
        (λ b. rw b tt)
