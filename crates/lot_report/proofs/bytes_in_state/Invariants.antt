use Rattle.std.proofs.Common.{◌≡◌, ◌<◌}
use Rattle.lot_report.specs.Count.{bound, sum_below}
use Rattle.lot_report.specs.Figures.{is_in_state, size_in}
use Rattle.lot_report.proofs.bytes_in_state.Given as goal

abbrev pub invariant-loop-id : goal.invariant-loop-id
invariant-loop-id l = record {
  small : l.bytes < bound;
  summed : l.bytes ≡ sum_below (is_in_state l.sections l.state) (size_in l.sections) l.id;
}
