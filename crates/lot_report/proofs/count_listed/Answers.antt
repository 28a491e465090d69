use Rattle.std.proofs.Common.{arith, ◌∙◌}
use Rattle.lot_report.specs.Proof.Sums.{count-none, counted, uncounted}
use Rattle.lot_report.proofs.count_listed.Goals as goal
use Rattle.lot_report.proofs.count_listed.Goals.{then-is_listed, else-is_listed}

pub loop-id-init : goal.loop-id-init
loop-id-init c = record { few = omega arith; counted = count-none _ }

pub loop-id-preserved : goal.loop-id-preserved
loop-id-preserved c =
    elim c.if-is_listed.branch [
      | then-is_listed w ↦ record {
        few = omega (arith, w.count-is, c.loop-id.invariant.few);
        counted = w.count-is ∙ counted _ _ _ _ c.loop-id.invariant.counted c.is_listed.ensures w.if-is_listed.true;
      }
      | else-is_listed w ↦ record {
        few = omega (arith, w.count-is, c.loop-id.invariant.few);
        counted = w.count-is ∙ uncounted _ _ _ _ c.loop-id.invariant.counted c.is_listed.ensures w.if-is_listed.false;
      }
    ]
