use Rattle.std.proofs.Common.{◌-◌}
use Rattle.name_index.specs.Named.{rows_in}
use Rattle.name_index.specs.Proof.Ways.{Halving}
use Rattle.name_index.proofs.seek.Given as goal

abbrev pub invariant-loop-low : goal.invariant-loop-low
invariant-loop-low l = Halving (rows_in l.rows) l.places l.name l.low l.high l.reads

abbrev pub decreases-loop-low : goal.decreases-loop-low
decreases-loop-low l = l.high - l.low
