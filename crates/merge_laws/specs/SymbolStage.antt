-- The table among the cells that the symbol stage is lent, and the number of the refusal that it has met, or 0.
-- Assumes nothing.
use Rattle.std.specs.Prelude.{ℕ}
use Rattle.merge_symbols.specs.Stage as Symbols
use Rattle.symbol_laws.specs.History.{State}

-- the table, without what the stage keeps for itself
abbrev pub table_in : Symbols.State → State
table_in s = record { bytes = s.bytes; names = s.names; symbols = s.symbols; sections = s.sections; link = s.stage.link }

abbrev pub number_of : Symbols.State → ℕ
number_of s = s.stage.number
