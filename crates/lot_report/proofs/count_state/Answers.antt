use Rattle.std.proofs.Common.{arith, ◌∙◌}
use Rattle.lot_report.specs.Proof.Sums.{count-none, counted, uncounted}
use Rattle.lot_report.proofs.count_state.Goals as goal
use Rattle.lot_report.proofs.count_state.Goals.{then-is_in_state, else-is_in_state}

pub loop-id-init : goal.loop-id-init
loop-id-init c = record { few = omega arith; counted = count-none _ }

pub loop-id-preserved : goal.loop-id-preserved
loop-id-preserved c =
    elim c.if-is_in_state.branch [
      | then-is_in_state w ↦ record {
        few = omega (arith, w.count-is, c.loop-id.invariant.few);
        counted = w.count-is ∙ counted _ _ _ _ c.loop-id.invariant.counted c.is_in_state.ensures w.if-is_in_state.true;
      }
      | else-is_in_state w ↦ record {
        few = omega (arith, w.count-is, c.loop-id.invariant.few);
        counted = w.count-is ∙ uncounted _ _ _ _ c.loop-id.invariant.counted c.is_in_state.ensures w.if-is_in_state.false;
      }
    ]
