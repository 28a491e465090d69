use Rattle.std.proofs.Common.{◌≡◌}
use Rattle.untaken_member.specs.Untaken.{cell_of, table_below}
use Rattle.untaken_member.proofs.loaded_table.Given as goal

abbrev pub invariant-loop-n : goal.invariant-loop-n
invariant-loop-n l = cell_of l.table ≡ table_below l.object.headers.now l.n
