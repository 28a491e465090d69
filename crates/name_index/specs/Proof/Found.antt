-- What a search among places in order meets.
-- Assumes nothing.
use Rattle.std.specs.Prelude.{ℕ, zero, suc, ◌+◌, ◌-◌, ◌<◌, ◌≤◌, ◌≡◌, ◌≢◌, eqb, ltb, Result, Ok, Err}
use Rattle.std.specs.declared.cmp.Ordering.{Ordering}
use Rattle.std.specs.declared.cmp.Ordering.TheVariants.{Less, Equal, Greater}
use Rattle.std.proofs.Common.{arith, sym, subst}
use borrow.Author.Tests.{eqb-true, eqb-false, ltb-true, ltb-false}
use Rattle.cells.specs.Proof.Split.{by-test}
use Rattle.name_index.specs.Seek.{met_at, middle, halve}
use Rattle.name_index.specs.Proof.Ways.{turn-up, turn-met, turn-down, turn-end}
use Rattle.name_index.specs.InOrder.{Right}
use Rattle.name_index.specs.Proof.Order.{cases}

-- of count places, those before one that isn't greater are less, and those behind one that isn't less are greater
pub record Ordered (f : ℕ → Ordering) (count : ℕ) : Type 0 where
  pub below : (i j : ℕ) → i < j → j < count → f j ≢ Greater → f i ≡ Less
  pub above : (i j : ℕ) → i < j → j < count → f i ≢ Less → f j ≡ Greater

less : (i j : ℕ) → i ≤ j → i ≢ j → i < j
less i j g n = by-test (ltb i j) (λ t. ltb-true _ _ t) (λ t. absurd (n (omega (arith, ltb-false i j t))))

err-is : {a b : ℕ} → ◌≡◌ {A = Result ℕ ℕ} (Err a) (Err b) → a ≡ b
err-is e = cc

ok-is : {a b : ℕ} → ◌≡◌ {A = Result ℕ ℕ} (Ok a) (Ok b) → a ≡ b
ok-is e = cc

apart : {P : Type 0} {a b : ℕ} → ◌≡◌ {A = Result ℕ ℕ} (Ok a) (Err b) → P
apart e = absurd (cc)

module _ (f : ℕ → Ordering) (count : ℕ) (o : Ordered f count) where
  missed-right : (low reads : ℕ) → low ≤ count → ((i : ℕ) → i < low → f i ≡ Less) → ((i : ℕ) → low ≤ i → i < count → f i ≡ Greater)
      → Right f count (met_at (Err low) reads)
  missed-right low reads h p q =
      record {
        met = λ k e. apart (sym e);
        missed = λ k e. subst (λ (k : ℕ). (k ≤ count) × ((i : ℕ) → i < k → f i ≡ Less) × ((i : ℕ) → k ≤ i → i < count → f i ≡ Greater)) (err-is e) (h, p, q);
      }

  met-right : (k reads : ℕ) → k < count → f k ≡ Equal → Right f count (met_at (Ok k) reads)
  met-right k reads h e =
      record { met = λ j q. subst (λ (k : ℕ). (k < count) × (f k ≡ Equal)) (ok-is q) (h, e); missed = λ j q. apart q }

  not-greater : {a : Ordering} → a ≡ Less → a ≢ Greater
  not-greater e q = cc

  not-less : {a : Ordering} → a ≡ Greater → a ≢ Less
  not-less e q = cc

  pub search-right : (n low high reads : ℕ) → high - low ≤ n → low ≤ high → high ≤ count → ((i : ℕ) → i < low → f i ≡ Less)
      → ((i : ℕ) → high ≤ i → i < count → f i ≡ Greater)
      → Right f count (halve f n low high reads)
  search-right zero low high reads a b c p q =
      subst (Right f count) (sym (turn-end f zero low high reads (omega arith))) (missed-right low reads (omega arith) p (λ i g. q i (omega arith)))
  search-right (suc n) low high reads a b c p q =
      let m : ℕ = middle low high in
      by-test (ltb low high)
      (λ t.
      let l : low < high = ltb-true _ _ t in
      cases (f m)
      (λ e.
      subst (Right f count) (sym (turn-up f n low high reads l e))
      (search-right n (m + 1) high (reads + 1) (omega arith) (omega arith) c
      (λ i g. by-test (eqb i m) (λ w. subst (λ (k : ℕ). f k ≡ Less) (sym (eqb-true _ _ w)) e)
      (λ w. o.below i m (less i m (omega arith) (eqb-false _ _ w)) (omega arith) (not-greater e)))
      q))
      (λ e. subst (Right f count) (sym (turn-met f n low high reads l e)) (met-right m (reads + 1) (omega arith) e))
      (λ e.
      subst (Right f count) (sym (turn-down f n low high reads l e))
      (search-right n low m (reads + 1) (omega arith) (omega arith) (omega arith) p
      (λ i g h. by-test (eqb m i) (λ w. subst (λ (k : ℕ). f k ≡ Greater) (eqb-true _ _ w) e)
      (λ w. o.above m i (less m i g (eqb-false _ _ w)) h (not-less e))))))
      (λ t. subst (Right f count) (sym (turn-end f (suc n) low high reads (ltb-false _ _ t)))
      (missed-right low reads (omega arith) p (λ i g. q i (omega (arith, ltb-false low high t)))))
