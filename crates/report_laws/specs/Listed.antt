-- What a lookup answers of a symbol, as a column of the sheet. Words for statements: no function and no contract has them.
-- Assumes nothing.
use Rattle.std.specs.Prelude.{ℕ, ◌+◌, ◌≡◌, Bool, true, false, List, eqb, length, Result, Ok, Err}
use Rattle.link.specs.declared.cause.Refusal.{Refusal}
use Rattle.link.specs.declared.SymbolId.{SymbolId}
use Rattle.link.specs.Judge.{judge_of}
use Rattle.symbol.specs.declared.Symbol.{Symbol}
use Rattle.symbol.specs.declared.SymbolValue.{SymbolValue}
use Rattle.symbol.specs.declared.SymbolValue.TheVariants as Val
use Rattle.symbols.specs.Calls.{lent_of}
use Rattle.symbols.specs.Lookup.{get_of}
use Rattle.lot_report.specs.Figures.{Title}

-- null, absolute, a section, a place in a section, undefined, common; all else is other
abbrev pub column_in : SymbolValue → ℕ
column_in Val.Null = 0
column_in (Val.Absolute v) = 1
column_in (Val.Section s) = 2
column_in (Val.SectionRelative s o) = 3
column_in (Val.Undefined z) = 4
column_in (Val.Common a) = 5
column_in (Val.SectionVirtualAddress s a) = 6
column_in Val.SectionNotLoaded = 6
column_in Val.ExternallyDefined = 6

-- a lookup that answers a symbol of that column
abbrev pub answers_in : ℕ → Result Symbol Refusal → Bool
answers_in c (Ok x) = eqb (column_in x.value) c
answers_in c (Err e) = false

-- what a lookup of a title's symbol answers
abbrev pub looked_up : Title → ℕ → Result Symbol Refusal
looked_up t id = get_of t.link t.symbols (record { 0 = id })

-- its cells are lent in full: no lookup is refused for a count above what is lent
abbrev pub Whole : Title → Type 0
Whole t = (judge_of t.link (lent_of t.link.chains (length t.symbols) t.link.slots)).number ≡ 0

-- the seven columns of symbols together
abbrev pub seven : (ℕ → ℕ) → ℕ
seven f = f 0 + f 1 + f 2 + f 3 + f 4 + f 5 + f 6
