-- A search by ascending number.
-- Assumes nothing.
use Rattle.std.specs.Prelude.{ℕ, zero, suc, ◌+◌, Bool, true, false, cond}

-- p holds of one of the n numbers from i on
unfoldable pub any_from : (ℕ → Bool) → ℕ → ℕ → Bool
any_from p i zero = false
any_from p i (suc n) = cond (p i) true (any_from p (i + 1) n)
