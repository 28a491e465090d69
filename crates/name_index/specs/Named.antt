-- The name of the symbol in a row.
-- Assumes nothing.
use Rattle.std.specs.Prelude.{ℕ, List}
use Rattle.interner.specs.Names.{name_at}
use Rattle.symbol.specs.Row.{field}
use Rattle.symbol.specs.Layout.{name_cell}
use Rattle.name_index.specs.declared.NamedRows.{NamedRows as Lent}

pub record Rows : Type 0 where
  pub bytes : List ℕ
  pub names : List ℕ
  pub symbols : List ℕ

abbrev pub rows_of : List ℕ → List ℕ → List ℕ → Rows
rows_of bytes names symbols = record { bytes = bytes; names = names; symbols = symbols }

-- of what is lent
abbrev pub rows_in : Lent → Rows
rows_in r = rows_of r.bytes.now r.names.now r.symbols.now

abbrev pub name_of_row : Rows → ℕ → List ℕ
name_of_row r id = name_at r.bytes r.names (field r.symbols id name_cell)
