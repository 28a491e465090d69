-- What is decided on an add: the number that refuses it, or what it does to the table.
-- Assumes nothing.
use Rattle.std.specs.Prelude.{ℕ}
use Rattle.link.specs.declared.SymbolId.{SymbolId}

pub data Decision : Type 0 where
  Refuse : ℕ → Decision
  Nothing : Decision
  Keep : SymbolId → Decision
  Append : Decision
  Replace : SymbolId → Decision
  Amend : SymbolId → Decision
