-- The table among the cells that a load is lent.
-- Assumes nothing.
use Prim.Native.Nat.{ℕ}
use Rattle.shared_objects.specs.SymbolsLoad.{State}
use Rattle.shared_objects.specs.Load.{All}
use Rattle.symbol_laws.specs.History as History

-- the table among all cells
abbrev pub table_in : All → History.State
table_in a = record { bytes = a.bytes; names = a.names; symbols = a.symbols; sections = a.sections; link = a.link }

abbrev pub number_of : State → ℕ
number_of s = s.stage.number
