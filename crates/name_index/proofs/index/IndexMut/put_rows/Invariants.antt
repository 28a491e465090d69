use Rattle.std.proofs.Common.{◌-◌, ◌≡◌}
use Rattle.name_index.specs.Named.{rows_in}
use Rattle.name_index.specs.Index.{same_places, index_in, rows_put}
use Rattle.name_index.specs.Proof.OneByOne.{Orderly}
use Rattle.name_index.proofs.index.IndexMut.put_rows.Given as goal

abbrev pub invariant-loop-next : goal.invariant-loop-next
invariant-loop-next l =
    same_places l.initial.self l.self
    × Orderly (rows_in l.rows) (index_in l.self)
    × (rows_put (rows_in l.rows) (index_in l.initial.self) l.from (l.to - l.from) ≡ rows_put (rows_in l.rows) (index_in l.self) l.next (l.to - l.next))

abbrev pub decreases-loop-next : goal.decreases-loop-next
decreases-loop-next l = l.to - l.next
