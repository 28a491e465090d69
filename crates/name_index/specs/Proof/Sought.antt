-- What a search among places in order meets.
-- Assumes nothing.
use Rattle.std.specs.Prelude.{ℕ, ltb, ◌<◌, ◌≤◌, ◌≡◌, List, length, Ok, Err}
use Rattle.std.specs.List.{insert}
use Rattle.std.specs.declared.cmp.Ordering.TheVariants.{Less, Equal, Greater}
use Rattle.std.proofs.Common.{arith, ap, ◌∙◌}
use borrow.Author.Tests.{ltb-true, ltb-false}
use Rattle.cells.specs.Proof.Split.{by-test}
use Rattle.name_index.specs.Named.{Rows, name_of_row}
use Rattle.name_index.specs.Seek.{stands, seek_of}
use Rattle.name_index.specs.InOrder.{name_in, InOrder, Right}
use Rattle.name_index.specs.Proof.Order as Order
use Rattle.name_index.specs.Proof.Found.{Ordered, search-right}
use Rattle.name_index.specs.Proof.Inserted.{in-order-more}

module _ (r : Rows) (places : List ℕ) (sorted : InOrder r places) (x : List ℕ) where
  ordered : Ordered (stands r places x) (length places)
  unfolding stands
  ordered =
      record {
        below = λ i j g h n. Order.not-after _ _ x (sorted i j g h) n;
        above = λ i j g h n. Order.not-before _ _ x (sorted i j g h) n;
      }

  right : Right (stands r places x) (length places) (seek_of r places x)
  unfolding seek_of
  right =
      search-right _ (length places) ordered (length places) 0 (length places) 0 (omega arith) (omega arith) (omega arith) (λ i g. absurd (omega arith))
      (λ i g h. absurd (omega arith))

  -- what is met is x
  pub met-is : (k : ℕ) → (seek_of r places x).place ≡ Ok k → (k < length places) × (name_in r places k ≡ x)
  unfolding stands
  met-is k e = let m = right.met k e in (m.0, Order.equal _ _ m.1)

  -- where x isn't met, all before the place are less, and the rest greater
  pub missed-in : (k : ℕ) → (seek_of r places x).place ≡ Err k → k ≤ length places
  missed-in k e = (right.missed k e).0

  pub missed-below : (k : ℕ) → (seek_of r places x).place ≡ Err k → (i : ℕ) → i < k → Order.order (name_in r places i) x ≡ Less
  unfolding stands
  missed-below k e = (right.missed k e).1

  pub missed-above : (k : ℕ) → (seek_of r places x).place ≡ Err k → (i : ℕ) → k ≤ i → i < length places → Order.order (name_in r places i) x ≡ Greater
  unfolding stands
  missed-above k e = (right.missed k e).2

  -- where x isn't met, it stands at no place
  pub missed-none : (k : ℕ) → (seek_of r places x).place ≡ Err k → (i : ℕ) → i < length places → name_in r places i ≡ x → ⊥
  missed-none k e i h q =
      let s : Order.order (name_in r places i) x ≡ Equal = ap (λ (n : List ℕ). Order.order n x) q ∙ Order.itself x in
      by-test (ltb i k)
      (λ t. let l : Order.order (name_in r places i) x ≡ Less = missed-below k e i (ltb-true i k t) in absurd (cc))
      (λ t. let l : Order.order (name_in r places i) x ≡ Greater = missed-above k e i (ltb-false i k t) h in absurd (cc))

  -- a name that isn't met, inserted where the search ends, leaves the index in order
  pub stays-in-order : (id k : ℕ) → name_of_row r id ≡ x → (seek_of r places x).place ≡ Err k → InOrder r (insert places k id)
  stays-in-order id k q e =
      in-order-more r places k id (missed-in k e) sorted (λ i g. rw q (missed-below k e i g)) (λ i g h. rw q (missed-above k e i g h))
