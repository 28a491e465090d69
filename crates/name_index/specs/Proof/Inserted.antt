-- The places after one more name is inserted.
-- Assumes nothing.
use Rattle.std.specs.Prelude.{ℕ, ◌+◌, ◌-◌, ◌<◌, ◌≤◌, ◌≡◌, List, eqb, ltb, get_or, length}
use Rattle.std.specs.List.{insert}
use Rattle.std.specs.declared.cmp.Ordering.TheVariants.{Less, Greater}
use Rattle.std.proofs.Common.{arith, sym, subst}
use Rattle.std.proofs.lemmas.List.Edits.{length-insert, get_or-insert_below, get_or-insert_at, get_or-insert_above}
use borrow.Author.Tests.{eqb-true, eqb-false, ltb-true, ltb-false}
use Rattle.cells.specs.Proof.Split.{by-test}
use Rattle.name_index.specs.Named.{Rows, name_of_row}
use Rattle.name_index.specs.InOrder.{name_in, InOrder}
use Rattle.name_index.specs.Proof.Order.{order, turned}

module _ (r : Rows) (places : List ℕ) (k id : ℕ) (in-range : k ≤ length places) (sorted : InOrder r places)
    (before : (i : ℕ) → i < k → order (name_in r places i) (name_of_row r id) ≡ Less)
    (after : (i : ℕ) → k ≤ i → i < length places → order (name_in r places i) (name_of_row r id) ≡ Greater)
  where
    abbrev new : List ℕ
    new = insert places k id

    at-front : (i : ℕ) → i < k → get_or new i 0 ≡ get_or places i 0
    at-front i h = get_or-insert_below places k id 0 i h in-range

    at-own : (i : ℕ) → i ≡ k → get_or new i 0 ≡ id
    at-own i e = subst (λ (j : ℕ). get_or new j 0 ≡ id) (sym e) (get_or-insert_at places k id 0 in-range)

    at-moved : (i : ℕ) → k < i → get_or new i 0 ≡ get_or places (i - 1) 0
    at-moved i h =
        let e : i - 1 + 1 ≡ i = omega arith in
        subst (λ (j : ℕ). get_or new j 0 ≡ get_or places (i - 1) 0) e (get_or-insert_above places k id 0 (i - 1) (omega arith) in-range)

    -- two places of the new list that hold what two of the old order are
    two : (i j a b : ℕ) → get_or new i 0 ≡ a → get_or new j 0 ≡ b → order (name_of_row r a) (name_of_row r b) ≡ Less
        → order (name_in r new i) (name_in r new j) ≡ Less
    two i j a b e f h = rw (e, f) h

    pub in-order-more : InOrder r new
    in-order-more i j g h' =
        let h : j < length places + 1 = omega (arith, h', length-insert places k id in-range) in
        by-test (ltb j k)
        (λ t. let a : j < k = ltb-true j k t in two i j _ _ (at-front i (omega arith)) (at-front j a) (sorted i j g (omega arith)))
        (λ t.
        let a : k ≤ j = ltb-false j k t in
        by-test (eqb j k)
        (λ u. let e : j ≡ k = eqb-true j k u in two i j _ _ (at-front i (omega arith)) (at-own j e) (before i (omega arith)))
        (λ u.
        let b : k < j = apart (eqb-false j k u) a in
        by-test (ltb i k)
        (λ v. let c : i < k = ltb-true i k v in two i j _ _ (at-front i c) (at-moved j b) (sorted i (j - 1) (omega arith) (omega arith)))
        (λ v.
        let c : k ≤ i = ltb-false i k v in
        by-test (eqb i k)
        (λ w. two i j _ _ (at-own i (eqb-true i k w)) (at-moved j b)
        (turned (name_in r places (j - 1)) (name_of_row r id) Greater (after (j - 1) (omega arith) (omega arith))))
        (λ w. let d : k < i = apart (eqb-false i k w) c in two i j _ _ (at-moved i d) (at-moved j b) (sorted (i - 1) (j - 1) (omega arith) (omega arith))))))
      where
        apart : {i j : ℕ} → (j ≡ i → ⊥) → i ≤ j → i < j
        apart {i} {j} n g = by-test (ltb i j) (λ t. ltb-true i j t) (λ t. absurd (n (omega (arith, ltb-false i j t))))
