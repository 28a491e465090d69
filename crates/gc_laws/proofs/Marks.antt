-- Laws of the definitions of Marks.antt.
-- Assumes nothing.
use Rattle.std.specs.Prelude.{ℕ, zero, suc, ◌+◌, ◌<◌, ◌≤◌, ◌≡◌, refl, Bool, true, false, cond, List, eqb, ltb, get_or, set, length}
use Rattle.std.proofs.Math.Decide.{ℕ_discrete}
use Rattle.std.proofs.Common.{not-suc-le-zero, arith, sym, ◌∙◌, length-set, get_or-set_same, get_or-set_other, ltb-true, ltb-false}
use Rattle.std.proofs.Math.ListN.{get_or-eq_default}
use Rattle.cells.specs.Proof.Split.{by-test}
use Rattle.gc_sections.specs.Each.{each}
use Rattle.gc_sections.specs.Reach.{clear_cell}
use Rattle.gc_laws.specs.Marks.{marks}

bit_le : (b : Bool) → cond b 0 1 ≤ 1
bit_le true = omega arith
bit_le false = omega arith

pub marks-le : (n : ℕ) (l : List ℕ) → marks n l ≤ n
unfolding marks
marks-le zero l = omega arith
marks-le (suc n) l = omega (arith, marks-le n l, bit_le (eqb (get_or l n 0) 0))

-- a cell past the first n doesn't count
pub marks-past : (n : ℕ) (l : List ℕ) (k v : ℕ) → n ≤ k → marks n (set l k v) ≡ marks n l
unfolding marks
marks-past zero l k v h = refl
marks-past (suc n) l k v h = rw (marks-past n l k v (omega arith), get_or-set_other l k n v 0 (λ e. omega arith))

pub marks-more : (n : ℕ) (l : List ℕ) (y : ℕ) → y < n → y < length l → get_or l y 0 ≡ 0 → marks n (set l y 1) ≡ suc (marks n l)
unfolding marks
marks-more zero l y h g z = absurd (not-suc-le-zero h)
marks-more (suc n) l y h g z = go (λ k. marks-more n l y k g z) (ℕ_discrete y n)
  where
    go : (y < n → marks n (set l y 1) ≡ suc (marks n l)) → Dec (y ≡ n) → marks n (set l y 1) + cond (eqb (get_or (set l y 1) n 0) 0) 0 1 ≡ suc (marks n l + cond (eqb (get_or l n 0) 0) 0 1)
    go r (yes e) =
        let a : get_or (set l y 1) n 0 ≡ 1 = rw (← e) (get_or-set_same l y 1 0 g) in
        let b : get_or l n 0 ≡ 0 = rw (← e) z in
        rw (a, b, marks-past n l y 1 (omega arith)) (omega arith)
    go r (no ne) = rw (get_or-set_other l y n 1 0 (λ e. ne (sym e)), r (omega arith)) (omega arith)

pub marks-lt : (n : ℕ) (l : List ℕ) (y : ℕ) → y < n → y < length l → get_or l y 0 ≡ 0 → marks n l < n
marks-lt n l y h g z = omega (arith, marks-more n l y h g z, marks-le n (set l y 1))

pub marks-none : (n : ℕ) (l : List ℕ) → ((y : ℕ) → y < n → get_or l y 0 ≡ 0) → marks n l ≡ 0
unfolding marks
marks-none zero l f = refl
marks-none (suc n) l f = rw (f n (omega arith), marks-none n l (λ y h. f y (omega arith)))

-- ---- cleared cells

set-zero : (l : List ℕ) (i : ℕ) → get_or (set l i 0) i 0 ≡ 0
set-zero l i =
    by-test (ltb i (length l)) (λ t. get_or-set_same l i 0 0 (ltb-true _ _ t))
    (λ t. get_or-eq_default (set l i 0) 0 (omega (arith, ltb-false i (length l) t, length-set l i 0)))

clear_stays : (k i : ℕ) (l : List ℕ) (y : ℕ) → get_or l y 0 ≡ 0 → get_or (each clear_cell k i l) y 0 ≡ 0
unfolding each clear_cell
clear_stays zero i l y z = z
clear_stays (suc k) i l y z = clear_stays k (i + 1) (set l i 0) y (go (ℕ_discrete y i))
  where
    go : Dec (y ≡ i) → get_or (set l i 0) y 0 ≡ 0
    go (yes e) = rw e (set-zero l i)
    go (no ne) = get_or-set_other l i y 0 0 ne ∙ z

pub cleared : (k i : ℕ) (l : List ℕ) (y : ℕ) → i ≤ y → y < i + k → get_or (each clear_cell k i l) y 0 ≡ 0
unfolding each clear_cell
cleared zero i l y a b = absurd (never a b)
  where
    never : i ≤ y → y < i + 0 → ⊥
    never a b = omega arith
cleared (suc k) i l y a b = go (λ h. cleared k (i + 1) (set l i 0) y h (omega arith)) (ℕ_discrete y i)
  where
    go : (i + 1 ≤ y → get_or (each clear_cell k (i + 1) (set l i 0)) y 0 ≡ 0) → Dec (y ≡ i) → get_or (each clear_cell k (i + 1) (set l i 0)) y 0 ≡ 0
    go r (yes e) = clear_stays k (i + 1) (set l i 0) y (rw e (set-zero l i))
    go r (no ne) = r (omega arith)

pub length-cleared : (k i : ℕ) (l : List ℕ) → length (each clear_cell k i l) ≡ length l
unfolding each clear_cell
length-cleared zero i l = refl
length-cleared (suc k) i l = length-cleared k (i + 1) (set l i 0) ∙ length-set l i 0
