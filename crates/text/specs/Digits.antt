-- A number in decimal digits, as a function of the number, and that it is what `text::put_decimal` puts.
-- Assumes nothing.
use Rattle.std.specs.Prelude.{ℕ, zero, suc, ◌/◌, cond, List, ltb}
use Rattle.io.specs.Digits.{last_digits}

-- how many digits v has, with fuel
unfoldable pub width : ℕ → ℕ → ℕ
width zero v = 1
width (suc f) v = cond (ltb v 10) 1 (suc (width f (v / 10)))

-- v in decimal digits, without leading zeros
unfoldable pub decimal : ℕ → List ℕ
decimal v = last_digits 10 (width v v) v
