use Rattle.std.proofs.Common.{rules}
use Rattle.owned_table.specs.Owned.{unnamed, named}
use Rattle.owned_table.proofs.OwnedTable.add_elf.Goals as goal

pub returns-in_err-intern : goal.returns-in_err-intern
returns-in_err-intern c = unnamed c.in_err-intern.ensures (search rules)

pub returns : goal.returns
returns c = named c.intern.new.self c.in_ok-intern.ensures c.add.ensures
