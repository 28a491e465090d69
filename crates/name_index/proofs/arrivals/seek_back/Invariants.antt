use Rattle.name_index.specs.Named.{rows_in}
use Rattle.name_index.specs.Proof.Finding.{Past}
use Rattle.name_index.proofs.arrivals.seek_back.Given as goal

abbrev pub invariant-loop-step : goal.invariant-loop-step
invariant-loop-step l = Past (rows_in l.rows) l.places l.name l.high l.step

abbrev pub decreases-loop-step : goal.decreases-loop-step
decreases-loop-step l = l.high
