use Rattle.name_index.specs.Named.{rows_in}
use Rattle.name_index.specs.Proof.Finding.{FoundFrom}
use Rattle.name_index.proofs.arrivals.find_places.Given as goal

abbrev pub invariant-loop-left : goal.invariant-loop-left
invariant-loop-left l = FoundFrom (rows_in l.rows) l.places l.ids l.found l.high l.left

abbrev pub decreases-loop-left : goal.decreases-loop-left
decreases-loop-left l = l.left
