-- `Symbols::new`: number and place are those of the first rule that holds.
-- Assumes nothing.
use Rattle.std.specs.Prelude.{ℕ, ◌/◌, ◌≡◌, refl, Bool, not, List, ltb, length}
use Rattle.std.proofs.Common.{arith, ap, ◌∙◌}
use Rattle.std.proofs.Math.Path.{sym}
use Rattle.std.proofs.Math.Bool.{false}
use Rattle.std.proofs.Math.Dec.{eqb}
use borrow.Author.Tests.{eq-eqb, ne_eqb, ltb-true, ltb-false}
use Rattle.link.specs.declared.cause.Refusal.{Refusal}
use Rattle.cells.specs.Proof.Split.{by-test}
use Rattle.link.specs.Bounds.{lesser, name_rows, symbol_rows}
use Rattle.link.specs.Said.{number_in}
use Rattle.interner.specs.Calls as Names
use Rattle.interner_laws.specs.Interns as Interns
use Rattle.interner_laws.proofs.Interns as InternsLaws
use Rattle.symbols.specs.New.{null_of, new_of}
use Rattle.link_laws.specs.Calls.{refusal_by}
use Rattle.link_laws.specs.Rules.{first_refusal, some_holds}
use Rattle.link_laws.proofs.Rules.{none-holds}
use Rattle.link_laws.specs.NewRules.{new_rules}

below_one : (n : ℕ) → ltb n 1 ≡ eqb n 0
below_one n =
    by-test (ltb n 1) (λ a. let e : n ≡ 0 = omega (arith, ltb-true n 1 a) in a ∙ sym (eq-eqb n 0 e))
    (λ a. a ∙ sym (ne_eqb n 0 (λ e. positive n a e)))
  where
    positive : (n : ℕ) → ltb n 1 ≡ false → n ≡ 0 → ⊥
    positive n a e = omega (arith, ltb-false n 1 a, e)

rows_none : (n : ℕ) → eqb (symbol_rows n) 0 ≡ eqb (n / 8) 0
unfolding lesser
rows_none n = by-test (ltb 65535 (n / 8)) (λ a. rw a (sym (ne_eqb (n / 8) 0 (λ e. omega (arith, ltb-true 65535 (n / 8) a, e))))) (λ a. rw a)

module _ (key : ℕ) (gabi : Bool) (bytes names symbols sections : List ℕ) where
  -- a name's row is lent just if the empty name gets one
  named_none : eqb (Names.new_of key bytes names).store.link.names 0 ≡ eqb (name_rows (length names)) 0
  unfolding Names.new_of
  named_none =
      by-test (eqb (name_rows (length names)) 0) (λ a. rw a)
      (λ a.
      let g = (InternsLaws.new-good key bytes names (number a)).some in
      ne_eqb (Names.new_of key bytes names).store.link.names 0 (λ e. omega (arith, g, e)) ∙ sym a)
    where
      number : eqb (name_rows (length names)) 0 ≡ false → Interns.Accepted (Names.new_of key bytes names)
      number a = rw a

  pub new-exactly : refusal_by (new_of key gabi bytes names symbols sections).said ≡ first_refusal (new_rules names symbols)
  unfolding new_of null_of
  new-exactly =
      rw (below_one (length symbols / 8), below_one (length names / 9))
      (by-test (eqb (length symbols / 8) 0) (λ a. rw (rows_none (length symbols), a))
      (λ a.
      by-test (eqb (length names / 9) 0) (λ b. rw (rows_none (length symbols), a, named_none, b)) (λ b. rw (rows_none (length symbols), a, named_none, b))))

  -- a table just where none holds
  pub new-accepted : eqb (number_in (new_of key gabi bytes names symbols sections).said) 0 ≡ not (some_holds (new_rules names symbols))
  new-accepted = ap (λ (r : Refusal). eqb r.number 0) new-exactly ∙ none-holds (new_rules names symbols) refl
