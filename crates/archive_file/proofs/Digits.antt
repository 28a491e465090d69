-- A number's decimal digits spell it.
-- Assumes nothing.
use Rattle.std.specs.Prelude.{ℕ, zero, suc, ◌+◌, ◌-◌, ◌*◌, ◌/◌, ◌%◌, ◌^◌, ◌<◌, ◌≤◌, ◌≡◌, refl, true, false, cond, List, [], ◌∷◌, ◌++◌, eqb, ltb, length, map, Option, Some}
use Rattle.std.specs.Int.Digits.{digits_of}
use Rattle.std.proofs.Common.{arith, sym, ap, ◌∙◌, eqb-true}
use Rattle.std.proofs.lemmas.Bool.{eqb-false}
use Rattle.std.proofs.lemmas.List.{map-append, length-map}
use Rattle.std.proofs.lemmas.Int.Digits.{digits_of_step, length-digits_of_step, length-digits_of-le}
use borrow.Author.Tests.{lt-ltb, le-ltb, ne_eqb, eq-eqb}
use Rattle.cells.specs.Proof.Split.{by-test}
use Rattle.text.specs.Decimal.{below64, digit_of, more_of, decimal_from, decimal_of}
use Rattle.text.specs.Proof.Ways.{decimal-some}
use Rattle.archive_file.specs.Writer.{digits, Without}

last-digit : (m : Option ℕ) (xs : List ℕ) (b : ℕ) → decimal_from m (xs ++ b ∷ []) ≡ more_of (decimal_from m xs) b
unfolding decimal_from
last-digit m [] b = refl
last-digit m (x ∷ xs) b = last-digit (more_of m x) xs b

abbrev text : ℕ → List ℕ
text n = map (λ d. 48 + d) (digits_of 10 n)

one-more : (q r n : ℕ) → r < 10 → q * 10 + r ≡ n → n < 2 ^ 64 → digit_of q (48 + r) ≡ Some n
unfolding digit_of below64
one-more q r n h e l =
    let v : q * 10 + (48 + r - 48) ≡ n = omega (arith, e) in
    rw (le-ltb (48 + r) 48 (omega arith), le-ltb 57 (48 + r) (omega (arith, h)), v, lt-ltb n 18446744073709551616 (omega (arith, l))) refl

spells : (f n : ℕ) → n ≤ f → n < 2 ^ 64 → decimal_from (Some 0) (text n) ≡ Some n
unfolding decimal_from
spells zero n h l = let e : n ≡ 0 = omega (arith, h) in rw e refl
spells (suc f) n h l =
    by-test (eqb n 0) (λ t. let e : n ≡ 0 = eqb-true _ _ t in rw e refl)
    (λ t.
    let z : n ≡ 0 → ⊥ = eqb-false _ _ t in
    let s = digits_of_step 10 n (omega arith) (omega (arith, z)) in
    let q : decimal_from (Some 0) (text (n / 10)) ≡ Some (n / 10) = spells f (n / 10) (omega (arith, h, z)) (omega (arith, l)) in
    ap (λ (x : List ℕ). decimal_from (Some 0) (map (λ d. 48 + d) x)) s
    ∙ ap (decimal_from (Some 0)) (map-append (λ d. 48 + d) (digits_of 10 (n / 10)) (n % 10 ∷ []))
    ∙ last-digit (Some 0) (text (n / 10)) (48 + n % 10)
    ∙ ap (λ (m : Option ℕ). more_of m (48 + n % 10)) q
    ∙ one-more (n / 10) (n % 10) n (omega arith) (omega arith) l)

pub digits-read : (n : ℕ) → n < 2 ^ 64 → decimal_of (digits n) ≡ Some n
unfolding decimal_of decimal_from digit_of below64
digits-read n l =
    by-test (eqb n 0) (λ t. let e : n ≡ 0 = eqb-true _ _ t in rw e refl)
    (λ t.
    let z : n ≡ 0 → ⊥ = eqb-false _ _ t in
    let w : length (text n) ≡ 0 → ⊥ =
    λ e. omega (arith, e, length-map (digits_of 10 n) (λ d. 48 + d), length-digits_of_step 10 n (omega arith) (omega (arith, z))) in
    rw t (decimal-some (text n) w ∙ spells n n (omega arith) l))

mapped-without : (b : ℕ) (ds : List ℕ) → b < 48 → Without b (map (λ d. 48 + d) ds)
mapped-without b [] h = tt
mapped-without b (d ∷ ds) h = (ne_eqb (48 + d) b (λ e. omega (arith, e, h)), mapped-without b ds h)

-- no digit is a blank, a slash or a line end
pub digits-without : (b n : ℕ) → b < 48 → Without b (digits n)
digits-without b n h =
    by-test (eqb n 0) (λ t. rw t (ne_eqb 48 b (λ e. omega (arith, e, h)), tt)) (λ t. rw t (mapped-without b (digits_of 10 n) h))

pub digits-short : (k n : ℕ) → 1 ≤ k → n < 10 ^ k → length (digits n) ≤ k
digits-short k n o h =
    by-test (eqb n 0) (λ t. rw t (omega (arith, o)))
    (λ t. rw (t, length-map (digits_of 10 n) (λ d. 48 + d)) (length-digits_of-le 10 k n (omega arith) h))
