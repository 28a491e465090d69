-- The hash is the polynomial, modulo 2^33 - 9.
-- Assumes nothing.
use Rattle.std.specs.Prelude.{ℕ, zero, suc, ◌+◌, ◌*◌, ◌/◌, ◌%◌, ◌≡◌, List}
use Rattle.std.proofs.Common.{arith, add-mul, mul_right_comm, ap, sym, ◌∙◌}
use Rattle.std.proofs.Math.Nat.{add_right_comm, add-mul-mod_self_right}
use Rattle.byte_slices.specs.Bytes.{word_at}
use Rattle.keyed_hash.specs.Keyed.{folded, mixed, hash_from}
use Rattle.keyed_hash.specs.Polynomial.{prime, polynomial}

fold_same : (x : ℕ) → folded x % prime ≡ x % prime
unfolding folded
fold_same x =
    let whole : x ≡ x % 0x200000000 + x / 0x200000000 * 9 + x / 0x200000000 * 0x1fffffff7 = omega arith in
    sym (ap (λ (k : ℕ). k % prime) whole ∙ add-mul-mod_self_right (x % 0x200000000 + x / 0x200000000 * 9) (x / 0x200000000) prime)

-- a step goes by the rest of what was before
rest-same : (r w h : ℕ) → (h + w) * r % prime ≡ (h % prime + w) * r % prime
rest-same r w h =
    let whole : h ≡ h % prime + h / prime * prime = omega arith in
    ap (λ (k : ℕ). (k + w) * r % prime) whole ∙ ap (λ (k : ℕ). k % prime) (apart (h % prime) (h / prime))
    ∙ add-mul-mod_self_right ((h % prime + w) * r) (h / prime * r) prime
  where
    apart : (a q : ℕ) → (a + q * prime + w) * r ≡ (a + w) * r + q * r * prime
    apart a q =
        ap (λ (k : ℕ). k * r) (add_right_comm a (q * prime) w) ∙ add-mul (a + w) (q * prime) r ∙ ap (λ (k : ℕ). (a + w) * r + k) (mul_right_comm q prime r)

mixed-same : (r h g w : ℕ) → h % prime ≡ g % prime → mixed r h w % prime ≡ (g + w) * r % prime
unfolding mixed
mixed-same r h g w e = fold_same ((h + w) * r) ∙ rest-same r w h ∙ ap (λ (k : ℕ). (k + w) * r % prime) e ∙ sym (rest-same r w g)

pub hash-is-polynomial : (r : ℕ) (x : List ℕ) (n i h g : ℕ) → h % prime ≡ g % prime → hash_from r x n i h % prime ≡ polynomial r x n i g % prime
unfolding hash_from polynomial
hash-is-polynomial r x zero i h g e = e
hash-is-polynomial r x (suc n) i h g e =
    hash-is-polynomial r x n (i + 4) (mixed r h (word_at x i)) ((g + word_at x i) * r) (mixed-same r h g (word_at x i) e)
