-- The table as it is lent to a method.
-- Assumes nothing.
use Rattle.std.specs.Prelude.{◌≡◌}
use Rattle.symbol_resolution.specs.declared.write.Table.{Table as Lent}
use Rattle.symbol_resolution.specs.Apply.{Table, table_of}

-- it holds the same lent cells as before
abbrev pub same_loans : Lent → Lent → Type 0
same_loans t u =
    (u.names.ghost_name ≡ t.names.ghost_name) × (u.symbols.ghost_name ≡ t.symbols.ghost_name) × (u.sections.ghost_name ≡ t.sections.ghost_name)

-- what they hold, and the counts
abbrev pub table_in : Lent → Table
table_in t = table_of t.names.now t.symbols.now t.sections.now t.link
