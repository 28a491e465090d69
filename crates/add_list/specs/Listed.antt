-- What a list of adds answers, beside the table that it leaves.
-- Assumes nothing.
use Rattle.std.specs.Prelude.{ℕ}
use Rattle.link.specs.declared.cause.Refusal.{Refusal}
use Rattle.symbols.specs.declared.Symbols.{Symbols}

-- number 0 where no add is refused
pub record Listed : Type 0 where
  pub table : Symbols
  pub refusal : Refusal
  pub position : ℕ
