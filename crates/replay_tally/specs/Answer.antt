-- An answer, against what a list expects.
-- Assumes nothing.
use Rattle.std.specs.Prelude.{ℕ, suc, ◌-◌, Bool, cond, List, [], ◌∷◌, eqb, length, take, get_or}
use Rattle.byte_slices.specs.Bytes.{same}

-- how many bytes stand before the first line end (10)
unfoldable pub line_length : List ℕ → ℕ
line_length [] = 0
line_length (b ∷ l) = cond (eqb b 10) 0 (suc (line_length l))

unfoldable pub first_line : List ℕ → List ℕ
first_line l = take (line_length l) l

-- e is expected: the same bytes; where e ends in a question mark (63), as far as that
unfoldable pub meets : List ℕ → List ℕ → Bool
meets e g = cond (eqb (get_or e (length e - 1) 0) 63) (same (take (length e - 1) e) (take (length e - 1) g)) (same e g)
