-- At most 16 places are read: a search among fewer than 2^b places reads b of them at most, since either half of what is left
-- behind the middle has fewer than 2^(b-1).
-- Assumes nothing.
use Rattle.std.specs.Prelude.{ℕ, zero, suc, ◌+◌, ◌-◌, ◌<◌, ◌≤◌, ltb}
use Rattle.std.specs.declared.cmp.Ordering.{Ordering}
use Rattle.std.proofs.Common.{arith, sym, subst}
use borrow.Author.Tests.{ltb-true, ltb-false}
use Rattle.cells.specs.Proof.Split.{by-test}
use Rattle.name_index.specs.declared.Met.{Met}
use Rattle.name_index.specs.Seek.{middle, halve}
use Rattle.name_index.specs.Proof.Ways.{turn-up, turn-met, turn-down, turn-end}
use Rattle.name_index_laws.proofs.Order.{cases}

abbrev pub power : ℕ → ℕ
power zero = 1
power (suc b) = power b + power b

module _ (f : ℕ → Ordering) where
  pub reads-most : (n b low high reads : ℕ) → high - low < power b → (halve f n low high reads).reads ≤ reads + b
  unfolding halve
  reads-most zero b low high reads h = omega arith
  reads-most (suc n) zero low high reads h = subst (λ (m : Met). m.reads ≤ reads + 0) (sym (turn-end f (suc n) low high reads (omega arith))) (omega arith)
  reads-most (suc n) (suc b) low high reads h =
      by-test (ltb low high)
      (λ t.
      let l : low < high = ltb-true _ _ t in
      cases (f (middle low high))
      (λ e.
      let r = reads-most n b (middle low high + 1) high (reads + 1) (omega arith) in
      subst (λ (m : Met). m.reads ≤ reads + suc b) (sym (turn-up f n low high reads l e)) (omega (arith, r)))
      (λ e. subst (λ (m : Met). m.reads ≤ reads + suc b) (sym (turn-met f n low high reads l e)) (omega arith))
      (λ e.
      let r = reads-most n b low (middle low high) (reads + 1) (omega arith) in
      subst (λ (m : Met). m.reads ≤ reads + suc b) (sym (turn-down f n low high reads l e)) (omega (arith, r))))
      (λ t. subst (λ (m : Met). m.reads ≤ reads + suc b) (sym (turn-end f (suc n) low high reads (ltb-false _ _ t))) (omega arith))
