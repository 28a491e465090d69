-- How many rows of a table pass a test, and the sum of a cell over those that do; sums that 64 bits hold.
-- Assumes nothing.
use Rattle.std.specs.Prelude.{ℕ, Bool, cond, List, ltb, count_by, sum_by, filter, Option, Some, None}
use Rattle.std.specs.List.{range_with_len}

-- the ids of n rows
abbrev pub ids : ℕ → List ℕ
ids n = range_with_len 0 n

unfoldable pub count_below : (ℕ → Bool) → ℕ → ℕ
count_below p n = count_by p (ids n)

unfoldable pub sum_below : (ℕ → Bool) → (ℕ → ℕ) → ℕ → ℕ
sum_below p f n = sum_by f (filter p (ids n))

abbrev pub bound : ℕ
bound = 0x10000000000000000

-- none: 2^64 or more
unfoldable pub checked : ℕ → Option ℕ
checked n = cond (ltb n bound) (Some n) None
