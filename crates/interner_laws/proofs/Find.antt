-- A walk along a chain finds what there is.
-- Assumes nothing.
use Prim.Native.Nat.{ℕ, zero, suc, ◌-◌, ◌<◌, ◌≤◌}
use Rattle.std.proofs.Common.{arith, le_trans, eq-or-lt_of_le, ◌∙◌}
use Rattle.std.specs.Prelude.{◌≡◌, refl, eqb, ltb, length}
use Rattle.std.proofs.Math.Path.{ap, sym}
use Rattle.std.proofs.Math.Logic.{⊎_elim}
use mathlib.Core.List.{List}
use borrow.Author.Tests.{eqb-true, eqb-false, ltb-true, ltb-false}
use Rattle.cells.specs.Proof.Split.{by-test}
use Rattle.byte_slices.specs.Bytes.{same}
use Rattle.byte_slices.specs.Proof.Ways.{pick, apart, same_refl, same_true}
use Rattle.link.specs.Bounds.{name_rows}
use Rattle.interner.specs.Names.{Store, chase, seek_of, find_from, find_of}
use Rattle.interner_laws.specs.Good.{Chained, Stays, count, name, next, chain, head, find}

-- whatever the cells hold
pub find-low : (s : Store) (x : List ℕ) → find s x ≤ count s
unfolding find_of find_from
find-low s x =
    pick (λ (r : ℕ). r ≤ count s) (ltb (seek_of s.bytes s.names (count s) (chain s x) x) (count s)) _ _
    (λ t. omega (arith, ltb-true (seek_of s.bytes s.names (count s) (chain s x) x) (count s) t))
    (λ t. omega arith)

pub some_below : (h n : ℕ) → h ≤ n → (h ≡ 0 → ⊥) → h - 1 < n
some_below h n l z = ⊎_elim (λ (e : 0 ≡ h). absurd (z (sym e))) (λ (e : 0 < h). omega arith) (eq-or-lt_of_le (omega arith))

module _ (s : Store) (x : List ℕ) (g : Chained s) where
  -- r answers the walk over the names below at
  pub record Found (at r : ℕ) : Type 0 where
    pub hit : r < count s → name s r ≡ x
    pub miss : count s ≤ r → (j : ℕ) → j < at → name s j ≡ x → ⊥

  chased : (n at : ℕ) → at ≤ n → at ≤ count s → ((at ≡ 0 → ⊥) → chain s (name s (at - 1)) ≡ chain s x) → Found at (chase s.bytes s.names (count s) x at n)
  unfolding chase
  chased zero at p q own = record { hit = λ h. absurd (omega arith); miss = λ h j l. absurd (omega arith) }
  chased (suc n) at p q own =
      pick (λ (r : ℕ). Found at r) (eqb at 0) _ _
      (λ e. let z : at ≡ 0 = eqb-true at 0 e in record { hit = λ h. absurd (omega arith); miss = λ h j l. absurd (omega arith) })
      (λ e. let some : at ≡ 0 → ⊥ = eqb-false at 0 e in
      let inn : at - 1 < count s = some_below at (count s) q some in
      let less : at - 1 < at = some_below at at (omega arith) some in
      let low : next s (at - 1) ≤ at - 1 = g.next_low (at - 1) inn in
      pick (λ (r : ℕ). Found at r) (same (name s (at - 1)) x) _ _
      (λ t. record { hit = λ h. same_true _ _ t; miss = λ h j l. absurd (omega arith) })
      (λ t.
      let ih : Found (next s (at - 1)) (chase s.bytes s.names (count s) x (next s (at - 1)) n) =
      chased n (next s (at - 1)) (omega arith) (omega arith) (λ z. g.next-own (at - 1) inn z ∙ own some) in
      record {
        hit = ih.hit;
        miss = λ h j l e'.
            ⊎_elim
            (λ (z : j ≡ at - 1). apart (sym t ∙ ap (λ (k : ℕ). same (name s k) x) (sym z) ∙ ap (λ (y : List ℕ). same y x) e' ∙ same_refl x))
            (λ (z : j < at - 1).
            by-test (ltb j (next s (at - 1)))
            (λ b. ih.miss h j (ltb-true _ _ b) e')
            (λ b. g.next-gap (at - 1) j inn (ltb-false _ _ b) z (ap (chain s) e' ∙ sym (own some))))
            (eq-or-lt_of_le (omega arith));
      }))

  sought : Found (count s) (seek_of s.bytes s.names (count s) (chain s x) x)
  unfolding seek_of
  sought =
      let rows : ℕ = name_rows (length s.names) in
      let f : Found (head s x) (chase s.bytes s.names (count s) x (head s x) rows) =
      chased rows (head s x) (omega (arith, g.head-low x, g.rows_in, g.rows-lent)) (g.head-low x) (g.head-own x) in
      record {
        hit = f.hit;
        miss = λ h j l e.
            by-test (ltb j (head s x))
            (λ b. f.miss h j (ltb-true _ _ b) e)
            (λ b. g.head-gap x j (ltb-false _ _ b) l (ap (chain s) e));
      }

  pub found : Found (count s) (find s x)
  unfolding find_of find_from
  found =
      pick (λ (r : ℕ). Found (count s) r) (ltb (seek_of s.bytes s.names (count s) (chain s x) x) (count s)) _ _
      (λ t. sought)
      (λ t. record { hit = λ h. absurd (omega arith); miss = λ h. sought.miss (ltb-false _ _ t) })

  -- the id of x, or the count
  pub find-known : (i : ℕ) → i < count s → name s i ≡ x → find s x ≡ i
  find-known i h e =
      by-test (ltb (find s x) (count s))
      (λ b. g.distinct (find s x) i (ltb-true _ _ b) h (found.hit (ltb-true _ _ b) ∙ sym e))
      (λ b. absurd (found.miss (ltb-false _ _ b) i h e))

  pub find-new : ((i : ℕ) → i < count s → name s i ≡ x → ⊥) → find s x ≡ count s
  find-new n =
      by-test (ltb (find s x) (count s))
      (λ b. absurd (n (find s x) (ltb-true _ _ b) (found.hit (ltb-true _ _ b))))
      (λ b. omega (arith, ltb-false (find s x) (count s) b, find-low s x))

  pub new_none : find s x ≡ count s → (i : ℕ) → i < count s → name s i ≡ x → ⊥
  new_none e = found.miss (omega arith)

pub find-issued : (s : Store) → Chained s → (i : ℕ) → i < count s → find s (name s i) ≡ i
find-issued s g i h = find-known s (name s i) g i h refl

-- what is found stays found
pub find-stays : (s t : Store) → Chained s → Chained t → Stays s t → (x : List ℕ) → find s x < count s → find t x ≡ find s x
find-stays s t g k p x h = find-known t x k (find s x) (le_trans h p.grows) (p.olds (find s x) h ∙ (found s x g).hit h)
