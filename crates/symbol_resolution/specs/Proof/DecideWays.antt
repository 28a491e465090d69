-- What the decision's functions rest on.
-- Assumes nothing.
use Rattle.std.specs.Prelude.{ℕ, ◌≡◌}
use Rattle.std.proofs.Common.{arith}
use Rattle.symbol.specs.Codes.{visibility_at}
use Rattle.symbol.specs.Hidden.{weak_in}
use Rattle.symbol_resolution.specs.Decide.{weak_of}

pub weak_same : (v : ℕ) → weak_in (visibility_at v) ≡ weak_of v
unfolding visibility_at weak_of
weak_same v = grind arith
