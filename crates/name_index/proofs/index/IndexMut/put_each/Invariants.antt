use Rattle.std.proofs.Common.{◌≡◌, ◌-◌}
use Rattle.name_index.specs.Named.{rows_in}
use Rattle.name_index.specs.Index.{same_places, index_in, rows_put}
use Rattle.name_index.proofs.index.IndexMut.put_each.Given as goal

abbrev pub invariant-loop-id : goal.invariant-loop-id
invariant-loop-id l =
    same_places l.initial.self l.self
    × (rows_put (rows_in l.rows) (index_in l.initial.self) l.from (l.to - l.from) ≡ rows_put (rows_in l.rows) (index_in l.self) l.id (l.to - l.id))
