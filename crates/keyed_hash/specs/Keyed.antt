-- A family of hashes, one for each key: the words of a name are the coefficients of a polynomial over the numbers modulo the prime 2^33 - 9, taken at
-- a point that is the key. Words of four bytes are below the prime, so no two are the same there.
-- Assumes nothing.
use Rattle.std.specs.Prelude.{ℕ, zero, suc, ◌+◌, ◌-◌, ◌*◌, ◌/◌, ◌%◌, cond, List, eqb, length}
use Rattle.byte_slices.specs.Bytes.{word_at}

-- 2^33
abbrev pub fold_bound : ℕ
fold_bound = 0x200000000

-- what it is modulo 2^33 - 9
abbrev pub fold_rest : ℕ
fold_rest = 9

-- the same number modulo 2^33 - 9
unfoldable pub folded : ℕ → ℕ
folded x = x % fold_bound + x / fold_bound * fold_rest

-- one more word taken in
unfoldable pub mixed : ℕ → ℕ → ℕ → ℕ
mixed r h w = folded ((h + w) * r)

-- the bytes of a word
abbrev pub word_bytes : ℕ
word_bytes = 4

-- the hash of n words from i on, at the point r, from a number on; a byte that isn't there is 0
unfoldable pub hash_from : ℕ → List ℕ → ℕ → ℕ → ℕ → ℕ
hash_from r x zero i h = h
hash_from r x (suc n) i h = hash_from r x n (i + word_bytes) (mixed r h (word_at x i))

abbrev pub or_base : ℕ → ℕ → ℕ
or_base base r = cond (eqb r 0) base r

-- 2^28
abbrev pub point_bound : ℕ
point_bound = 0x10000000

-- the point of key 0
abbrev pub base_point : ℕ
base_point = 0x9e3779b

-- a point: below 2^28, so that one fold for a word suffices, and not 0, where no word counts; the one key that would give 0 has the base, as key 0
unfoldable pub point_of : ℕ → ℕ → ℕ
point_of key base = or_base base ((key % point_bound + base) % point_bound)

-- no hash is as much
abbrev pub hash_bound : ℕ
hash_bound = 0x100000000

-- how many words there are, the last one maybe with bytes missing
abbrev pub words_of : List ℕ → ℕ
words_of x = (length x + (word_bytes - 1)) / word_bytes

-- the hash of bytes in 32 bits; it starts with their number, since zeros at the end and words of zeros in front don't show otherwise
unfoldable pub hash_of : ℕ → List ℕ → ℕ
hash_of key x = folded (hash_from (point_of key base_point) x (words_of x) 0 (length x % hash_bound)) % fold_bound / 2
