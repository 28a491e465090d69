-- Words compared: two lists of bytes are the same where their words of eight bytes are.
-- Assumes nothing.
use Rattle.std.specs.Prelude.{ℕ, ◌+◌, ◌-◌, ◌*◌, ◌/◌, ◌<◌, ◌≤◌, ◌≡◌, true, false, List, eqb, ltb, get_or, length}
use Rattle.std.proofs.Common.{arith, ap, sym, ◌∙◌}
use Rattle.std.proofs.lemmas.Bool.{eqb-false}
use Rattle.std.proofs.lemmas.List.{ext_get_or}
use borrow.Author.Tests.{eqb-true, ltb-true, ltb-false}
use Rattle.cells.specs.Proof.Split.{by-test}
use Rattle.byte_slices.specs.Bytes.{word_at, long_word, Bytes, same}
use Rattle.byte_slices.specs.Proof.Ways.{same_refl, same_true}

-- the bytes below n are the same
abbrev pub Alike : List ℕ → List ℕ → ℕ → Type 0
Alike a b n = (i : ℕ) → i < n → get_or a i 0 ≡ get_or b i 0

word-alike : (a b : List ℕ) (i : ℕ) → Bytes a i → Bytes b i → word_at a i ≡ word_at b i → (k : ℕ) → i ≤ k → k < i + 4 → get_or a k 0 ≡ get_or b k 0
unfolding word_at
word-alike a b i f g e k h m =
    by-test (eqb k i) (λ t. rw (eqb-true k i t) (omega (arith, f, g, e)))
    (λ t.
    by-test (eqb k (i + 1)) (λ u. rw (eqb-true k (i + 1) u) (omega (arith, f, g, e)))
    (λ u.
    by-test (eqb k (i + 2)) (λ v. rw (eqb-true k (i + 2) v) (omega (arith, f, g, e)))
    (λ v. rw (third t u v) (omega (arith, f, g, e)))))
  where
    third : eqb k i ≡ false → eqb k (i + 1) ≡ false → eqb k (i + 2) ≡ false → k ≡ i + 3
    third t u v = omega (arith, h, m, eqb-false k i t, eqb-false k (i + 1) u, eqb-false k (i + 2) v)

word-small : (a : List ℕ) (i : ℕ) → Bytes a i → word_at a i < 0x100000000
unfolding word_at
word-small a i f = omega (arith, f)

long-alike : (a b : List ℕ) (i : ℕ) → Bytes a i → Bytes a (i + 4) → Bytes b i → Bytes b (i + 4) → long_word a i ≡ long_word b i
    → (k : ℕ) → i ≤ k → k < i + 8 → get_or a k 0 ≡ get_or b k 0
long-alike a b i f₁ f₂ g₁ g₂ e k h m =
    by-test (ltb k (i + 4)) (λ t. word-alike a b i f₁ g₁ low k h (ltb-true k (i + 4) t))
    (λ t. word-alike a b (i + 4) f₂ g₂ high k (ltb-false k (i + 4) t) (omega arith))
  where
    low : word_at a i ≡ word_at b i
    low = omega (arith, e, word-small a i f₁, word-small b i g₁)

    high : word_at a (i + 4) ≡ word_at b (i + 4)
    high = omega (arith, e, word-small a i f₁, word-small b i g₁)

pub alike-none : (a b : List ℕ) → Alike a b (0 * 8)
alike-none a b i h = absurd (omega (arith, h))

-- one word more
pub alike-on : (a b : List ℕ) (k x y : ℕ) → Alike a b (k * 8)
    → (x ≡ long_word a (k * 8)) × Bytes a (k * 8) × Bytes a (k * 8 + 4) → (y ≡ long_word b (k * 8)) × Bytes b (k * 8) × Bytes b (k * 8 + 4) → x ≡ y
    → Alike a b ((k + 1) * 8)
alike-on a b k x y l p q e i h =
    by-test (ltb i (k * 8)) (λ t. l i (ltb-true i (k * 8) t))
    (λ t. long-alike a b (k * 8) p.1 p.2 q.1 q.2 (sym p.0 ∙ e ∙ q.0) i (ltb-false i (k * 8) t) (omega arith))

-- another word at a place
pub words-differ : (a b : List ℕ) (i x y : ℕ) → x ≡ long_word a i → y ≡ long_word b i → (x ≡ y → ⊥) → same a b ≡ false
words-differ a b i x y p q ne =
    by-test (same a b) (λ t. absurd (ne (p ∙ ap (λ (l : List ℕ). long_word l i) (same_true a b t) ∙ sym q))) (λ t. t)

-- all words before the last, and the last
pub words-decide : (a b : List ℕ) (n x y : ℕ) → length a ≡ length b → 8 ≤ length a → (length a - 1) / 8 ≤ n → Alike a b (n * 8)
    → (x ≡ long_word a (length a - 8)) × Bytes a (length a - 8) × Bytes a (length a - 8 + 4)
    → (y ≡ long_word b (length a - 8)) × Bytes b (length a - 8) × Bytes b (length a - 8 + 4)
    → eqb x y ≡ same a b
words-decide a b n x y e w m l p q =
    by-test (eqb x y) (λ t. t ∙ sym (alike (eqb-true x y t)))
    (λ t. t ∙ sym (words-differ a b (length a - 8) x y p.0 q.0 (eqb-false x y t)))
  where
    alike : x ≡ y → same a b ≡ true
    alike s =
        ap (same a) (sym whole) ∙ same_refl a
      where
        whole : a ≡ b
        whole =
            ext_get_or 0 a b e
            (λ i h.
            by-test (ltb i (n * 8)) (λ t. l i (ltb-true i (n * 8) t))
            (λ t. long-alike a b (length a - 8) p.1 p.2 q.1 q.2 (sym p.0 ∙ s ∙ q.0) i (omega (arith, ltb-false i (n * 8) t)) (omega arith)))

pub lengths-differ : (a b : List ℕ) → (length a ≡ length b → ⊥) → same a b ≡ false
lengths-differ a b ne = by-test (same a b) (λ t. absurd (ne (ap length (same_true a b t)))) (λ t. t)
