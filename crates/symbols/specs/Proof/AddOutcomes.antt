-- What a direct add of a row leaves and answers, by the decision on it.
-- Assumes nothing.
use Rattle.link.specs.declared.Interned.{Interned}
use Rattle.std.specs.Prelude.{◌≡◌, eqb, Option}
use Rattle.std.proofs.Common.{sym, eqb-true}
use Rattle.cells.specs.Proof.Split.{by-test}
use Rattle.link.specs.Said.{number_in}
use Rattle.symbol.specs.declared.Row.{Row}
use Rattle.symbol_resolution.specs.Decision.{Decision}
use Rattle.symbol_resolution.specs.Decide.{refusal_of}
use Rattle.symbol_resolution.specs.Apply.{Table, apply_of}
use Rattle.symbols.specs.Add.{decided_of, committed_of, add_row_of}

module _ (t : Table) (r : Row) (file : Option Interned) where
  abbrev d : Decision
  d = decided_of t r file

  -- the number is the decision's
  pub added-number : number_in (add_row_of t r file).said ≡ refusal_of d
  unfolding add_row_of committed_of
  added-number =
      by-test (eqb (refusal_of d) 21) (λ a. rw a (sym (eqb-true _ _ a)))
      (λ a. by-test (eqb (refusal_of d) 0) (λ b. rw (a, b) (sym (eqb-true _ _ b))) (λ b. rw (a, b)))

  -- the table as it was, or as the decision leaves it
  pub added-left : (P : Table → Type 0) → P t → P (apply_of t r d) → P (add_row_of t r file).table
  unfolding add_row_of committed_of
  added-left P same done =
      by-test (eqb (refusal_of d) 21) (λ a. rw a same) (λ a. by-test (eqb (refusal_of d) 0) (λ b. rw (a, b) done) (λ b. rw (a, b) same))
