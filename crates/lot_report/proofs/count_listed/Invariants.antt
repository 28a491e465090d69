use Rattle.std.proofs.Common.{◌≡◌, ◌≤◌}
use Rattle.lot_report.specs.Count.{count_below}
use Rattle.lot_report.specs.Figures.{is_listed}
use Rattle.lot_report.proofs.count_listed.Given as goal

abbrev pub invariant-loop-id : goal.invariant-loop-id
invariant-loop-id l = record {
  few : l.count ≤ l.id;
  counted : l.count ≡ count_below (is_listed l.symbols l.listed) l.id;
}
