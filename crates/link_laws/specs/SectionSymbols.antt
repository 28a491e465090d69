-- `section_symbol_id` over a history: "A local `Section` row becomes its section's symbol, the last one winning; `remove` of any `Section` row drops that entry",
-- "A section without a symbol answers "none"". Told by what `get` answers, so without a cell.
-- Assumes nothing.
use Prim.Native.Nat.{ℕ, ◌+◌, ◌≤◌}
use Rattle.std.specs.Prelude.{◌≡◌, Option, None, Some, Ok}
use Rattle.link.specs.declared.SymbolId.{SymbolId}
use Rattle.link.specs.declared.SectionId.{SectionId}
use Rattle.symbol.specs.declared.Symbol.{Symbol}
use Rattle.symbol.specs.declared.SymbolVisibility.TheVariants.{Local}
use Rattle.symbol.specs.declared.SymbolValue.{SymbolValue}
use Rattle.symbol.specs.declared.SymbolValue.TheVariants as Val
use Rattle.symbols.specs.New.{null_row}
use Rattle.symbol.specs.Row.{row_at}
use Rattle.symbol_laws.specs.History.{State}
use Rattle.merge_laws.specs.Calls.{Linked}
use Rattle.link_laws.specs.Calls.{get, call_left}
use Rattle.link_laws.specs.LocalRows.{symbol_in}

-- ---- the words

-- the row of an id, if it is there, has the value `Section` of y
pub record SectionRow (s : Linked) (y : SectionId) (i : SymbolId) : Type 0 where
  pub row : Symbol
  pub got : call_left (get i) s ≡ Ok row
  pub section : row.value ≡ Val.Section y

-- and is local
pub record LocalSection (s : Linked) (y : SectionId) (i : SymbolId) : Type 0 where
  pub its : SectionRow s y i
  pub local : its.row.visibility ≡ Local

-- the last one
pub record LastOf (s : Linked) (y : SectionId) (i : SymbolId) : Type 0 where
  pub own : LocalSection s y i
  pub last : (j : SymbolId) → LocalSection s y j → j.0 ≤ i.0

-- the section of a `Section` value and 1, 0 for others
abbrev pub section_number : SymbolValue → ℕ
section_number Val.Null = 0
section_number (Val.Absolute v) = 0
section_number (Val.Section s) = s.0 + 1
section_number (Val.SectionRelative s z) = 0
section_number (Val.SectionVirtualAddress s v) = 0
section_number Val.SectionNotLoaded = 0
section_number Val.ExternallyDefined = 0
section_number (Val.Undefined weak) = 0
section_number (Val.Common alignment) = 0

abbrev pub symbol_number : Option SymbolId → ℕ
symbol_number None = 0
symbol_number (Some i) = i.0 + 1

-- a table without sections' symbols, of one row, which is null
pub record Fresh (s : State) : Type 0 where
  pub one : s.link.symbols ≡ 1
  pub clear : (y : ℕ) → symbol_in s y ≡ 0
  pub null : row_at s.symbols 0 ≡ null_row
