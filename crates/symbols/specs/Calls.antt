-- What the table's calls answer, in document 01's terms, and what they leave.
-- Assumes nothing.
use Rattle.link.specs.declared.cause.Refusal.{Refusal}
use Rattle.link.specs.declared.SymbolId.{SymbolId}
use Rattle.std.specs.Prelude.{ℕ, List, Result, Ok, Err}
use Rattle.link.specs.declared.Link.{Link}
use Rattle.link.specs.declared.Lent.{Lent}
use Rattle.link.specs.Bounds.{not_lent}
use Rattle.link.specs.Said.{Said, accepted, refusing}
use Rattle.link.specs.Counts.{no_rows, lent_rows}
use Rattle.symbol_resolution.specs.Apply.{Table, table_of}
use Rattle.symbols.specs.declared.Symbols.{Symbols}
use Rattle.symbols.specs.Outcome.{Outcome}

-- the symbol's id, or the refusal
abbrev pub said : Result SymbolId Refusal → Said
said (Ok id) = accepted id.0
said (Err r) = refusing r

-- every lent cell, the counts and the answer after a call
pub record Left : Type 0 where
  pub table : Table
  pub said : Said

abbrev pub left : Table → Said → Left
left t s = record { table = t; said = s }

abbrev pub outcome : List ℕ → List ℕ → List ℕ → Outcome → Left
outcome names symbols sections r = left (table_of names symbols sections r.table.link) (said r.answer)

abbrev pub refused_by : Link → Refusal → Outcome
refused_by l r = record { table = record { link = l }; answer = Err r }

-- of a new table: the null symbol's id, or no table
abbrev pub made_of : Result Symbols Refusal → Outcome
made_of (Ok t) = record { table = t; answer = Ok (record { 0 = 0 }) }
made_of (Err r) = refused_by no_rows r

-- of a table of that link
abbrev pub answered : Link → Result SymbolId Refusal → Outcome
answered l r = record { table = record { link = l }; answer = r }

-- the rows of names and sections, the length of the symbols
abbrev pub lent_of : ℕ → ℕ → ℕ → Lent
lent_of names symbols sections = lent_rows names not_lent symbols sections not_lent not_lent
