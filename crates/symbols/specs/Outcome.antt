-- What a call answers, beside the table that it leaves.
-- Assumes nothing.
use Rattle.std.specs.Prelude.{Result}
use Rattle.link.specs.declared.SymbolId.{SymbolId}
use Rattle.link.specs.declared.cause.Refusal.{Refusal}
use Rattle.symbols.specs.declared.Symbols.{Symbols}

pub record Outcome : Type 0 where
  pub table : Symbols
  pub answer : Result SymbolId Refusal
