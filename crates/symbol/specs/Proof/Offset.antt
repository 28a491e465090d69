-- Laws of the definitions of Offset.antt.
-- Assumes nothing.
use Rattle.std.specs.Prelude.{ℕ, suc, ◌-◌, ◌^◌, ◌<◌, ◌≤◌, ◌≡◌, ltb, ℤ, pos, negsuc}
use Rattle.std.proofs.Common.{sym, ap, ◌∙◌, subst, arith, lt-ltb, le-ltb, ltb-true, ltb-false, SFits}
use Rattle.cells.specs.Proof.Split.{by-test}
use Rattle.std.specs.Int.{w64}
use Rattle.symbol.specs.Offset.{offset_of, word_of}

pub offset-low : (v : ℕ) → v < 2 ^ 63 → offset_of v ≡ pos v
unfolding offset_of
offset-low v h = rw lt-ltb

pub offset-high : (v : ℕ) → 2 ^ 63 ≤ v → offset_of v ≡ negsuc (2 ^ 64 - suc v)
unfolding offset_of
offset-high v h = rw le-ltb

pub offset_word : (z : ℤ) → SFits w64 z → offset_of (word_of z) ≡ z
unfolding word_of
offset_word (pos n) f = offset-low n f.sfits
offset_word (negsuc n) f =
    let h : n < 2 ^ 63 = f.sfits in
    offset-high (2 ^ 64 - suc n) (omega arith) ∙ ap negsuc (omega arith)

low : (v : ℕ) → v < 2 ^ 63 → word_of (offset_of v) ≡ v
unfolding word_of
low v h = rw (offset-low v h)

high : (v : ℕ) → v < 2 ^ 64 → 2 ^ 63 ≤ v → word_of (offset_of v) ≡ v
unfolding word_of
high v h g = rw (offset-high v g) (omega arith)

-- a word's offset has that word
pub word-offset : (v : ℕ) → v < 2 ^ 64 → word_of (offset_of v) ≡ v
word-offset v h = by-test (ltb v (2 ^ 63)) (λ t. low v (ltb-true _ _ t)) (λ t. high v h (ltb-false _ _ t))

-- any word's offset is a number of 64 bits
pub offset-fits : (v : ℕ) → SFits w64 (offset_of v)
offset-fits v =
    by-test (ltb v (2 ^ 63)) (λ h. subst (SFits w64) (sym (offset-low v (ltb-true _ _ h))) (record { sfits = ltb-true _ _ h }))
    (λ h. subst (SFits w64) (sym (offset-high v (ltb-false _ _ h))) (record { sfits = omega (arith, ltb-false v (2 ^ 63) h) }))
