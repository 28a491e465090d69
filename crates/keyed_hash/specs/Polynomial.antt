-- The hash as a polynomial, modulo 2^33 - 9.
-- Assumes nothing.
use Rattle.std.specs.Prelude.{ℕ, zero, suc, ◌+◌, ◌*◌, List}
use Rattle.byte_slices.specs.Bytes.{word_at}

abbrev pub prime : ℕ
prime = 0x1fffffff7

-- the words as coefficients, nothing reduced
unfoldable pub polynomial : ℕ → List ℕ → ℕ → ℕ → ℕ → ℕ
polynomial r x zero i h = h
polynomial r x (suc n) i h = polynomial r x n (i + 4) ((h + word_at x i) * r)
