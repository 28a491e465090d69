-- Names as they are lent to a method.
-- Assumes nothing.
use Rattle.std.specs.Prelude.{◌≡◌}
use Rattle.interner.specs.declared.Names.{Names}
use Rattle.interner.specs.declared.NamesMut.{NamesMut}
use Rattle.interner.specs.Names.{Store, store_of}

-- it holds the same lent bytes and cells as before
abbrev pub same_loans : NamesMut → NamesMut → Type 0
same_loans n m = (m.bytes.ghost_name ≡ n.bytes.ghost_name) × (m.cells.ghost_name ≡ n.cells.ghost_name)

-- what they hold, and the counts
abbrev pub store_in : NamesMut → Store
store_in n = store_of n.bytes.now n.cells.now n.link

abbrev pub store_read : Names → Store
store_read n = store_of n.bytes.now n.cells.now n.link
