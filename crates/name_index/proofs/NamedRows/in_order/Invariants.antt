use Rattle.std.proofs.Common.{length, ◌-◌, ◌<◌}
use Rattle.name_index.specs.Named.{rows_in}
use Rattle.name_index.specs.Proof.Finding.{OrderTo}
use Rattle.name_index.proofs.NamedRows.in_order.Given as goal

abbrev pub invariant-loop-next : goal.invariant-loop-next
invariant-loop-next l = (0 < l.next) × OrderTo (rows_in l.self) l.ids l.next

abbrev pub decreases-loop-next : goal.decreases-loop-next
decreases-loop-next l = length l.ids - l.next
