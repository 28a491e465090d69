use Rattle.lot_report.specs.Proof.Sums.{Summed}
use Rattle.lot_report.proofs.Figures.plus.Given as goal

abbrev pub invariant-loop-i : goal.invariant-loop-i
invariant-loop-i l = Summed l.self.0 l.other.0 l.sums l.i
