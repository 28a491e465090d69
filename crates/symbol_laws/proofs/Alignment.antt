-- 2026-06: "alignment zero or no power of two". The test is passed by 2 ^ k for each k up to 63, and by no other number of 64 bits.
-- Assumes nothing.
use Rattle.std.specs.Prelude.{ℕ, zero, suc, ◌+◌, ◌/◌, ◌%◌, ◌^◌, ◌<◌, ◌≤◌, ◌≡◌, ◌≢◌, true, cond, eqb, leb, count_ones}
use Rattle.std.proofs.Common.{arith, ap, ◌∙◌, eqb-true, eq-eqb, leb-true, leb-false}
use Rattle.std.proofs.lemmas.Bool.{eqb-false}
use Rattle.std.specs.Int.{is_power_of_two, IsPowerOfTwo}
use Rattle.std.proofs.lemmas.Nat.{zero_from_ones, ones_le_self}
use Rattle.std.specs.Int.Count.{ones_step}
use Rattle.std.proofs.Math.Pow.{pow_mono}
use Rattle.std.proofs.Math.Nat.{two-pow-succ}
use Rattle.cells.specs.Proof.Split.{by-test}
use Rattle.symbol.specs.declared.Words.{Words}
use Rattle.symbol.specs.Codes.{value_at, alignment_of}
use Rattle.symbol_laws.specs.DirectContents.{IsAlignment}

-- one digit is set
one_is : (d n : ℕ) → n ≤ d → count_ones n ≡ 1 → IsPowerOfTwo n
one_is zero n h e = absurd (omega (arith, ones_le_self n))
one_is (suc d) n h e =
    let s = ones_step n in
    by-test (eqb (n % 2) 0)
    (λ a.
    let even : n % 2 ≡ 0 = eqb-true _ _ a in
    let half = one_is d (n / 2) (omega arith) (omega (arith, s, e, even)) in
    (suc half.0, omega (arith, even, half.1, two-pow-succ half.0)))
    (λ a.
    let odd : n % 2 ≢ 0 = eqb-false _ _ a in
    let none : n / 2 ≡ 0 = zero_from_ones (n / 2) (omega (arith, s, e, odd)) in
    (0, omega (arith, none, odd)))

power-one : (k : ℕ) → count_ones (2 ^ k) ≡ 1
power-one zero = omega (arith, ones_step 1, ones_le_self 0)
power-one (suc k) =
    let double : 2 ^ suc k ≡ 2 ^ k + 2 ^ k = two-pow-succ k in
    let even : 2 ^ suc k % 2 ≡ 0 = omega (arith, double) in
    let half : 2 ^ suc k / 2 ≡ 2 ^ k = omega (arith, double) in
    omega (arith, ones_step (2 ^ suc k), even, ap count_ones half, power-one k)

pub power-alignment : (a : ℕ) → a < 2 ^ 64 → is_power_of_two a ≡ true → IsAlignment a
power-alignment a small e =
    let p = one_is a a (omega arith) (eqb-true _ _ e) in
    (p.0, (below p.0 p.1, p.1))
  where
    below : (k : ℕ) → a ≡ 2 ^ k → k ≤ 63
    below k q =
        by-test (leb k 63) (λ t. leb-true k 63 t)
        (λ t.
        let h : 64 ≤ k = leb-false k 63 t in
        let most : 2 ^ 64 ≤ 2 ^ k = pow_mono h in
        absurd (omega (arith, small, q, most)))

pub alignment-power : (a : ℕ) → IsAlignment a → is_power_of_two a ≡ true
alignment-power a p = eq-eqb (count_ones a) 1 (ap count_ones p.1.1 ∙ power-one p.0)

-- "an alignment: a common's value field, as in gABI, else 0", of the value that a row's words hold
pub alignment-is : (w : Words) → alignment_of (value_at w) ≡ cond (eqb w.kind 8) w.a 0
unfolding value_at
alignment-is w =
    by-test (eqb w.kind 1) (λ a. let q : w.kind ≡ 1 = eqb-true _ _ a in rw q)
    (λ a.
    by-test (eqb w.kind 2) (λ b. let q : w.kind ≡ 2 = eqb-true _ _ b in rw q)
    (λ b.
    by-test (eqb w.kind 3) (λ c. let q : w.kind ≡ 3 = eqb-true _ _ c in rw q)
    (λ c.
    by-test (eqb w.kind 4) (λ d. let q : w.kind ≡ 4 = eqb-true _ _ d in rw q)
    (λ d.
    by-test (eqb w.kind 5) (λ e. let q : w.kind ≡ 5 = eqb-true _ _ e in rw q)
    (λ e.
    by-test (eqb w.kind 6) (λ f. let q : w.kind ≡ 6 = eqb-true _ _ f in rw q)
    (λ f.
    by-test (eqb w.kind 7) (λ g. let q : w.kind ≡ 7 = eqb-true _ _ g in rw q)
    (λ g.
    by-test (eqb w.kind 8) (λ h. rw (a, b, c, d, e, f, g, h)) (λ h. rw (a, b, c, d, e, f, g, h)))))))))
