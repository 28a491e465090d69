-- What is left of a name's words once some are hashed.
-- Assumes nothing.
use Rattle.std.specs.Prelude.{ℕ, ◌+◌, ◌-◌, ◌/◌, ◌%◌, ◌≡◌, List, cond, ltb, length}
use Rattle.std.proofs.Math.Path.{sym}
use Rattle.std.proofs.Common.{◌∙◌, eq-eqb, ne_eqb}
use Rattle.byte_slices.specs.Bytes.{word_at}
use Rattle.keyed_hash.specs.Keyed.{mixed, hash_from, point_of}

module _ (key base t : ℕ) where
  abbrev sum : ℕ
  sum = (key % 0x10000000 + base) % 0x10000000

  pub point-base : sum ≡ 0 → t ≡ base → t ≡ point_of key base
  unfolding point_of
  point-base z q = q ∙ sym (rw (eq-eqb _ _ z))

  pub point-own : (sum ≡ 0 → ⊥) → t ≡ sum → t ≡ point_of key base
  unfolding point_of
  point-own n q = q ∙ sym (rw (ne_eqb _ _ n))

-- the words from i on, of n bytes
abbrev pub words : ℕ → ℕ → ℕ
words n i = (n + 3 - i) / 4

-- what the hash gives from a place on is what it gives in all
unfoldable pub Rest : ℕ → List ℕ → ℕ → ℕ → Type 0
Rest r x i h = hash_from r x ((length x + 3) / 4) 0 (length x % 0x100000000) ≡ hash_from r x (words (length x) i) i h

-- the word at i, where it has a byte
unfoldable pub last_mixed : ℕ → ℕ → List ℕ → ℕ → ℕ
last_mixed r h x i = cond (ltb i (length x)) (mixed r h (word_at x i)) h
