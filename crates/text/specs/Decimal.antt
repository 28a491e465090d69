-- Option ℕs below 2^64, in decimal digits (48 to 57).
-- Assumes nothing.
use Rattle.std.specs.Prelude.{ℕ, ◌+◌, ◌-◌, ◌*◌, cond, List, [], ◌∷◌, ltb, Option, Some, None}

unfoldable pub below64 : ℕ → Option ℕ
below64 v = cond (ltb v 18446744073709551616) (Some v) None

unfoldable pub digit_of : ℕ → ℕ → Option ℕ
digit_of n b = cond (ltb b 48) None (cond (ltb 57 b) None (below64 (n * 10 + (b - 48))))

abbrev pub more_of : Option ℕ → ℕ → Option ℕ
more_of None b = None
more_of (Some n) b = digit_of n b

unfoldable pub decimal_from : Option ℕ → List ℕ → Option ℕ
decimal_from m [] = m
decimal_from m (b ∷ l) = decimal_from (more_of m b) l

-- at least one digit
unfoldable pub decimal_of : List ℕ → Option ℕ
decimal_of [] = None
decimal_of (b ∷ l) = decimal_from (Some 0) (b ∷ l)
