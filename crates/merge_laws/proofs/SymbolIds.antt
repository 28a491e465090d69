-- An accepted symbol's cell holds the id that its add is answered, and 1.
-- Assumes nothing.
use Rattle.std.specs.Prelude.{ℕ, true, List, eqb, None}
use Rattle.std.proofs.Common.{arith, sym, ap, ◌∙◌}
use Rattle.std.proofs.Math.Path.{◌≡◌}
use Rattle.std.proofs.Math.ListN.{set}
use borrow.Author.Tests.{eqb-true}
use Rattle.cells.specs.Proof.Split.{by-test}
use Rattle.link.specs.declared.Interned.{Interned}
use Rattle.link.specs.Said.{value_in}
use Rattle.interner.specs.Names.{store_of, keep_of}
use Rattle.symbol.specs.declared.Row.{Row}
use Rattle.symbol.specs.Codes.{successor}
use Rattle.symbol_resolution.specs.Decision.{Decision}
use Rattle.symbol_resolution.specs.Decide.{refusal_of, id_of}
use Rattle.symbol_resolution.specs.Apply.{Table}
use Rattle.symbols.specs.Add.{committed_of, add_row_of}
use Rattle.merge_symbols.specs.Plan.{Planned}
use Rattle.merge_symbols.specs.Plan.{Input, planned_of}
use Rattle.merge_symbols.specs.Stage as Symbols
use Rattle.merge_symbols.specs.Stage.{cell_of, accept_row, kept_of, commit_of, view, symbol_named}
use Rattle.symbol_laws.proofs.View.{View, refused, kept, amended, replaced, appended, local, decided}
use Rattle.symbol_laws.proofs.View as Decided
use Rattle.symbol_laws.specs.History.{State, table, issue, part_next, put_of}
use Rattle.merge_laws.specs.MergeSteps.{adds}
use Rattle.merge_laws.specs.SymbolStage.{table_in}
use Rattle.merge_laws.proofs.SymbolStage.{plan-id, plan-decides}

-- a decision that is accepted answers the id that its cell has
decided-cell : (t : Table) (r : Row) → refusal_of (decided t r) ≡ 0 → View t r → cell_of (decided t r) t.link.symbols ≡ successor (id_of (decided t r) t.link.symbols).0
decided-cell t r z (refused n e u) = absurd (u (sym (ap (λ (d : Decision). refusal_of d) e) ∙ z))
decided-cell t r z (kept e k w o q p) = rw e
decided-cell t r z (amended e k w o q) = rw e
decided-cell t r z (replaced e k w o) = rw e
decided-cell t r z (appended e f k w) = rw e
decided-cell t r z (local e f v) = rw e

answered : (t : Table) (r : Row) → refusal_of (decided t r) ≡ 0 → value_in (add_row_of t r None).said ≡ (id_of (decided t r) t.link.symbols).0
unfolding add_row_of committed_of
answered t r z = rw z

pub put-cell : (t : Table) (r : Row) (d : Decision) → decided t r ≡ d → refusal_of d ≡ 0 → cell_of d t.link.symbols ≡ successor (value_in (add_row_of t r None).said)
put-cell t r d e z =
    let y : refusal_of (decided t r) ≡ 0 = ap (λ (d : Decision). refusal_of d) e ∙ z in
    ap (λ (d : Decision). cell_of d t.link.symbols) (sym e) ∙ decided-cell t r y (Decided.view t r) ∙ ap successor (sym (answered t r y))

-- ---- one symbol

module _ (o : Input) (s : Symbols.State) (x : List ℕ) (i : ℕ) where
  abbrev plan : Planned
  plan = planned_of (view s) o x i s.stage.file

  -- the table with the name issued
  abbrev named : State
  named = part_next (issue x) (table_in s)

  pub commit-number : (symbol_named o s x i).stage.number ≡ 0 → refusal_of plan.decision ≡ 0
  unfolding symbol_named commit_of kept_of accept_row
  commit-number e =
      by-test (eqb (refusal_of plan.decision) 2) (λ t. let z : ◌≡◌ {A = ℕ} 2 0 = rw t at e in absurd (omega arith))
      (λ t. by-test (eqb (refusal_of plan.decision) 0) (λ z. eqb-true _ _ z) (λ z. rw (t, z) at e))

  pub ids_set : refusal_of plan.decision ≡ 0 → (symbol_named o s x i).ids ≡ set s.ids i (cell_of plan.decision named.link.symbols)
  unfolding symbol_named commit_of kept_of accept_row
  ids_set z = rw z (ap (λ (k : Interned). set s.ids i (cell_of plan.decision (keep_of (store_of s.bytes s.names s.stage.link) k x).link.symbols)) (plan-id o s x i))

  pub named-id : adds o x i ≡ true → (symbol_named o s x i).stage.number ≡ 0 → (symbol_named o s x i).ids ≡ set s.ids i (successor (value_in (put_of named plan.row).said))
  named-id b e =
      let z : refusal_of plan.decision ≡ 0 = commit-number e in
      ids_set z ∙ ap (set s.ids i) (put-cell (table named) plan.row plan.decision (plan-decides o s x i b z) z)
