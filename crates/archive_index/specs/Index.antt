-- Document 01, "Archives": "The index is the System V one: a big-endian 32-bit count, that many 32-bit member offsets, as many zero-ended names."
-- Assumes nothing.
use Rattle.std.specs.Prelude.{ℕ, zero, suc, ◌+◌, ◌*◌, cond, List, Option, Some, None, eqb, get_or, length}
use Rattle.gabi.specs.StringTable.{ended, name_at}

-- the bytes of a number of 32 bits
abbrev pub word_bytes : ℕ
word_bytes = 4

-- the big-endian one at place i; a byte past the end is 0
abbrev pub word_at : List ℕ → ℕ → ℕ
word_at s i = get_or s i 0 * 16777216 + get_or s (i + 1) 0 * 65536 + get_or s (i + 2) 0 * 256 + get_or s (i + 3) 0

unfoldable pub count_of : List ℕ → ℕ
count_of s = word_at s 0

unfoldable pub offset_of : List ℕ → ℕ → ℕ
offset_of s k = word_at s (word_bytes + word_bytes * k)

-- the place after the name at place p and its zero byte; 0 where it is cut short
unfoldable pub after_of : List ℕ → ℕ → ℕ
after_of s p = cond (ended s p) (p + length (name_at s p) + 1) 0

-- that place, unless the name is cut short
unfoldable pub after_in : List ℕ → ℕ → Option ℕ
after_in s p = cond (ended s p) (Some (p + length (name_at s p) + 1)) None

-- where the names start, after c offsets
abbrev pub names_at : ℕ → ℕ
names_at c = word_bytes + word_bytes * c

-- where entry k's name starts, of c entries
unfoldable pub place_of : List ℕ → ℕ → ℕ → ℕ
place_of s c zero = names_at c
place_of s c (suc k) = after_of s (place_of s c k)

-- entry k's name
unfoldable pub name_of : List ℕ → ℕ → ℕ → List ℕ
name_of s c k = name_at s (place_of s c k)

-- of the n names from place p on, those of the entries from k on, the first that is cut short; else k + n
unfoldable pub cut_of : List ℕ → ℕ → ℕ → ℕ → ℕ
cut_of s p zero k = k
cut_of s p (suc n) k = cond (eqb (after_of s p) 0) k (cut_of s (after_of s p) n (k + 1))
