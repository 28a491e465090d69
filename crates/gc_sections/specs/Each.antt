-- A loop over ascending numbers.
-- Assumes nothing.
use Rattle.std.specs.Prelude.{ℕ, zero, suc, ◌+◌}

-- f at i, then at i + 1, and so on: n times
unfoldable pub each : {S : Type 0} → (ℕ → S → S) → ℕ → ℕ → S → S
each f zero i s = s
each f (suc n) i s = each f n (i + 1) (f i s)
