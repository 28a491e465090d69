-- Laws of the definitions of Ways.antt.
-- Assumes nothing.
use Rattle.std.specs.Prelude.{ℕ, zero, suc, ◌+◌, ◌*◌, ◌-◌, ◌/◌, ◌%◌, ◌<◌, ◌≤◌, ◌≡◌, refl, List, ltb, length}
use Rattle.std.proofs.Common.{arith, subst, mul-le-mul, ap, ◌∙◌, ne_eqb, lt-ltb, le-ltb, ltb-true, ltb-false, Fits}
use Rattle.std.proofs.Math.Nat.{sub-zero}
use Rattle.std.proofs.Math.Path.{sym}
use Rattle.std.specs.Int.{w64}
use Rattle.byte_slices.specs.Bytes.{word_at, Bytes}
use Rattle.byte_slices.specs.Proof.Ways.{pick}
use Rattle.keyed_hash.specs.Keyed.{folded, mixed, hash_from, or_base, point_of, hash_of}
use Rattle.keyed_hash.specs.Ways.{words, Rest, last_mixed}

module _ (r h w : ℕ) (a : r < 0x10000000) (c : h < 0x400000000) (e : w < 0x100000000) where
  most : (h + w) * r ≤ 0x500000000 * 0x10000000
  most = mul-le-mul {n₂ = 0x500000000} {m₂ = 0x10000000} (omega arith) (omega arith)

  pub product-fits : Fits w64 ((h + w) * r)
  product-fits = omega (arith, most)

  pub mixed-small : (t : ℕ) → t ≡ folded ((h + w) * r) → t < 0x400000000
  unfolding folded
  mixed-small t q = omega (arith, most, q)

pub mixed-is : (r h w t : ℕ) → t ≡ folded ((h + w) * r) → t ≡ mixed r h w
unfolding mixed
mixed-is r h w t q = q

pub point-small : (n : ℕ) → n % 0x10000000 < 0x10000000
point-small n = omega arith

-- no key gives the point 0, at which all names of a length in words have one hash
pub point-positive : (key base : ℕ) → 0 < base → 0 < point_of key base
unfolding point_of
point-positive key base h = go ((key % 0x10000000 + base) % 0x10000000)
  where
    go : (r : ℕ) → 0 < or_base base r
    go zero = h
    go (suc r) = rw (ne_eqb (suc r) 0 (λ e. omega arith)) (omega arith)

pub word_small : (x : List ℕ) (i w : ℕ) → w ≡ word_at x i → Bytes x i → w < 0x100000000
unfolding word_at
word_small x i w e (a, b, c, d) = omega (arith, e)

pub rest_all : (r : ℕ) (x : List ℕ) → Rest r x 0 (length x % 0x100000000)
unfolding Rest
rest_all r x = ap (λ (n : ℕ). hash_from r x (n / 4) 0 (length x % 0x100000000)) (sym (sub-zero (length x + 3)))

pub rest-on : (r : ℕ) (x : List ℕ) (i h w t : ℕ) → i < length x → w ≡ word_at x i → t ≡ mixed r h w → Rest r x i h → Rest r x (i + 4) t
unfolding Rest hash_from
rest-on r x i h w t l e g q =
    let more : words (length x) i ≡ suc (words (length x) (i + 4)) = omega arith in
    q ∙ rw more (rw (g, e) refl)

-- word k, all of whose bytes are there
pub rest-word : (r : ℕ) (x : List ℕ) (k h w t : ℕ) → k < length x / 4 → w ≡ word_at x (k * 4) → t ≡ mixed r h w → Rest r x (k * 4) h → Rest r x ((k + 1) * 4) t
rest-word r x k h w t l e g q =
    let next : k * 4 + 4 ≡ (k + 1) * 4 = omega arith in subst (λ (i : ℕ). Rest r x i t) next (rest-on r x (k * 4) h w t (omega arith) e g q)

module _ (r h : ℕ) (x : List ℕ) (i t : ℕ) where
  pub last_word : (w : ℕ) → i < length x → w ≡ word_at x i → t ≡ mixed r h w → t ≡ last_mixed r h x i
  unfolding last_mixed
  last_word w l e q = q ∙ sym (rw (lt-ltb _ _ l, ← e))

  pub last_none : length x ≤ i → t ≡ h → t ≡ last_mixed r h x i
  unfolding last_mixed
  last_none l q = q ∙ sym (rw (le-ltb _ _ l))

-- fewer than four bytes are left
last-is : (r h : ℕ) (x : List ℕ) (i : ℕ) → length x - i ≤ 3 → Rest r x i h
    → hash_from r x ((length x + 3) / 4) 0 (length x % 0x100000000) ≡ last_mixed r h x i
unfolding Rest hash_from last_mixed
last-is r h x i l q =
    pick (λ (z : ℕ). hash_from r x ((length x + 3) / 4) 0 (length x % 0x100000000) ≡ z) (ltb i (length x)) (mixed r h (word_at x i)) h
    (λ e. let k : i < length x = ltb-true _ _ e in let one : words (length x) i ≡ suc zero = omega arith in q ∙ rw one)
    (λ e. let k : length x ≤ i = ltb-false _ _ e in let none : words (length x) i ≡ 0 = omega arith in q ∙ rw none)

pub hash-end : (key : ℕ) (x : List ℕ) (r k h u t v : ℕ) → r ≡ point_of key 0x9e3779b → k ≤ length x / 4 → length x / 4 ≤ k → Rest r x (k * 4) h
    → u ≡ last_mixed r h x (length x / 4 * 4) → v ≡ folded u → t ≡ v % 0x200000000 / 2 → t ≡ hash_of key x
unfolding hash_of
hash-end key x r k h u t v a m n q f g p =
    let all : k ≡ length x / 4 = omega arith in
    let left : length x - length x / 4 * 4 ≤ 3 = omega arith in
    let done : hash_from r x ((length x + 3) / 4) 0 (length x % 0x100000000) ≡ u =
    last-is r h x (length x / 4 * 4) left (subst (λ (j : ℕ). Rest r x (j * 4) h) all q) ∙ sym f in
    p ∙ sym (rw (← a, done, ← g))

pub start_small : (n : ℕ) → n % 0x100000000 < 0x400000000
start_small n = omega arith

pub hash-small : (key : ℕ) (x : List ℕ) → hash_of key x < 0x100000000
unfolding hash_of
hash-small key x = omega arith

pub half-small : (v : ℕ) → v % 0x200000000 / 2 < 0x100000000
half-small v = omega arith
