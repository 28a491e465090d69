use Rattle.std.proofs.Common.{◌≡◌, ◌≤◌}
use Rattle.lot_report.specs.Count.{count_below}
use Rattle.lot_report.specs.Figures.{is_in_state}
use Rattle.lot_report.proofs.count_state.Given as goal

abbrev pub invariant-loop-id : goal.invariant-loop-id
invariant-loop-id l = record {
  few : l.count ≤ l.id;
  counted : l.count ≡ count_below (is_in_state l.sections l.state) l.id;
}
