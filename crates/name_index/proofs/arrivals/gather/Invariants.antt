use Rattle.std.proofs.Common.{◌≡◌, ◌≤◌, ◌-◌, ◌+◌, ◌++◌, take}
use Rattle.name_index.specs.Named.{rows_in}
use Rattle.name_index.specs.Arrivals.{global_rows}
use Rattle.name_index.proofs.arrivals.gather.Given as goal

abbrev pub invariant-loop-id : goal.invariant-loop-id
invariant-loop-id l =
    (l.count + l.from ≤ l.id) × (l.count ≤ l.to - l.from)
    × (take l.count l.ids ++ global_rows (rows_in l.rows) l.id (l.to - l.id) ≡ global_rows (rows_in l.rows) l.from (l.to - l.from))
