-- Fields of the gABI as words of byte_slices, and what lies past the end of the bytes.
-- Assumes nothing.
use Rattle.std.specs.Prelude.{ℕ, ◌+◌, ◌*◌, ◌/◌, ◌%◌, ◌<◌, ◌≤◌, ◌≡◌, refl, List, length, drop, get_or}
use Rattle.std.proofs.Common.{arith, sym, ◌∙◌, length-drop}
use Rattle.std.proofs.Math.ListN.{get_or-eq_default}
use Rattle.std.proofs.lemmas.List.{take_all}
use Rattle.byte_slices.specs.Bytes.{Bytes, part}
use Rattle.byte_slices.specs.Bytes as Slices
use Rattle.gabi.specs.File.{byte_at, half_at, word_at, xword_at, member_at, section_count, header_table}

-- a byte, a half and a word of the gABI are the low byte, the low half and all of the word that byte_slices reads there
module _ (x : List ℕ) (i t w : ℕ) where
  pub byte-read : w ≡ Slices.word_at x i → Bytes x i → t ≡ w % 0x100 → t ≡ byte_at x i
  unfolding Slices.word_at
  byte-read e (a, b, c, d) q = omega (arith, e, a, b, c, d, q)

  pub half-read : w ≡ Slices.word_at x i → Bytes x i → t ≡ w % 0x10000 → t ≡ half_at x i
  unfolding Slices.word_at half_at
  half-read e (a, b, c, d) q = omega (arith, e, a, b, c, d, q)

  pub word_read : w ≡ Slices.word_at x i → t ≡ w → t ≡ word_at x i
  unfolding Slices.word_at word_at
  word_read e q = q ∙ e

-- past the end of the bytes each field is 0
module _ (x : List ℕ) (i t : ℕ) where
  past : (k : ℕ) → length x ≤ k → get_or x k 0 ≡ 0
  past k h = get_or-eq_default x 0 h

  word_none : length x ≤ i → t ≡ 0 → t ≡ word_at x i
  unfolding word_at
  word_none h q = q ∙ sym (simp (past i h, past (i + 1) (omega arith), past (i + 2) (omega arith), past (i + 3) (omega arith)))

module _ (x : List ℕ) (i t : ℕ) where
  pub xword-none : length x ≤ i → t ≡ 0 → t ≡ xword_at x i
  unfolding xword_at
  xword-none h q = q ∙ sym (rw (← word_none x i 0 h refl, ← word_none x (i + 4) 0 (omega arith) refl))

  pub member-none : length x ≤ i * 4 + 4 → t ≡ 0 → t ≡ member_at x i
  unfolding member_at
  member-none h q = word_none x (i * 4 + 4) t h q

-- a table of more headers than the file has room for is the rest of the file
module _ (file t : List ℕ) (s n : ℕ) where
  pub table-large : s ≡ xword_at file 40 → n ≡ section_count file → length file / 64 < n → t ≡ part file s (length file) → t ≡ header_table file
  unfolding header_table
  table-large p q g r =
      let a = take_all (length file) (drop s file) (omega (arith, length-drop s file)) in
      let b = take_all (n * 64) (drop s file) (omega (arith, length-drop s file)) in
      r ∙ a ∙ sym b ∙ rw (p, q)
