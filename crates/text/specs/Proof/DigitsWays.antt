-- Laws of the definitions of Digits.antt.
-- Assumes nothing.
use Rattle.std.specs.Prelude.{ℕ, zero, suc, ◌-◌, ◌*◌, ◌/◌, ◌^◌, ◌<◌, ◌≤◌, ◌≡◌, refl, true, false, List, ltb}
use Rattle.std.proofs.Common.{arith, pow-suc, sym, ap, ◌∙◌, subst, ltb-true, ltb-false}
use Rattle.io.specs.Digits.{last_digits, IsDigitCount}
use Rattle.cells.specs.Proof.Split.{by-test}
use Rattle.text.specs.Text.{Text, put_of, PutDecimal}
use Rattle.text.specs.Digits.{width, decimal}

ten-pos : (j : ℕ) → 0 < 10 ^ j
ten-pos zero = omega arith
ten-pos (suc j) = let h : 0 < 10 ^ j = ten-pos j in let e : 10 ^ suc j ≡ 10 ^ j * 10 = pow-suc 10 j in omega arith

least-of : (v j : ℕ) → IsDigitCount 10 1 v (suc (suc j)) → 10 ^ suc j ≤ v
least-of v j f =
    let s : suc (suc j) - 1 ≡ suc j = omega arith in
    subst (λ (n : ℕ). 10 ^ n ≤ v) s (f.2 (omega arith))

one-digit : (v k : ℕ) → v < 10 → IsDigitCount 10 1 v k → 1 ≡ k
one-digit v zero h f = omega arith
one-digit v (suc zero) h f = refl
one-digit v (suc (suc j)) h f =
    let p : 0 < 10 ^ j = ten-pos j in
    let e : 10 ^ suc j ≡ 10 ^ j * 10 = pow-suc 10 j in
    let g : 10 ^ suc j ≤ v = least-of v j f in
    omega arith

less-digits : (v j : ℕ) → 10 ≤ v → IsDigitCount 10 1 v (suc (suc j)) → IsDigitCount 10 1 (v / 10) (suc j)
less-digits v zero h f =
    let e : 10 ^ 2 ≡ 10 ^ 1 * 10 = pow-suc 10 1 in
    let a : v < 10 ^ 2 = f.1 in
    (omega arith, omega arith, λ g. omega arith)
less-digits v (suc i) h f =
    let e : 10 ^ suc (suc i) ≡ 10 ^ suc i * 10 = pow-suc 10 (suc i) in
    let e' : 10 ^ suc (suc (suc i)) ≡ 10 ^ suc (suc i) * 10 = pow-suc 10 (suc (suc i)) in
    let a : v < 10 ^ suc (suc (suc i)) = f.1 in
    let g : 10 ^ suc (suc i) ≤ v = least-of v (suc i) f in
    let s : suc (suc i) - 1 ≡ suc i = omega arith in
    (omega arith, omega arith, λ x. subst (λ (n : ℕ). 10 ^ n ≤ v / 10) (sym s) (omega arith))

two_digits : (v k : ℕ) (P : ℕ → Type 0) → 10 ≤ v → IsDigitCount 10 1 v k → ((j : ℕ) → IsDigitCount 10 1 v (suc (suc j)) → P (suc (suc j))) → P k
two_digits v zero P h f g = absurd (omega arith)
two_digits v (suc zero) P h f g = let a : v < 10 ^ 1 = f.1 in absurd (omega arith)
two_digits v (suc (suc j)) P h f g = g j f

pub width_is : (f v k : ℕ) → v ≤ f → IsDigitCount 10 1 v k → width f v ≡ k
unfolding width
width_is zero v k h w = one-digit v k (omega arith) w
width_is (suc f) v k h w =
    by-test (ltb v 10)
    (λ t. rw t (one-digit v k (ltb-true v 10 t) w))
    (λ t. let g : 10 ≤ v = ltb-false v 10 t in
    rw t (two_digits v k (λ (n : ℕ). suc (width f (v / 10)) ≡ n) g w (λ j u. ap suc (width_is f (v / 10) (suc j) (omega arith) (less-digits v j g u)))))

pub put_is : (b : List ℕ) (n v : ℕ) (t : Text) → PutDecimal b n v t → t ≡ put_of b n (decimal v)
unfolding decimal
put_is b n v t p = p.put ∙ ap (λ (k : ℕ). put_of b n (last_digits 10 k v)) (sym (width_is v v p.count (omega arith) p.fewest))
