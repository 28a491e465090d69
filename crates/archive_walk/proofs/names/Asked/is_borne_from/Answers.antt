use Rattle.std.proofs.Common.{arith}
use Rattle.archive_walk.specs.Proof.Ways.{along-on}
use Rattle.archive_walk.proofs.names.Asked.is_borne_from.Goals as goal

pub loop-step-preserved : goal.loop-step-preserved
loop-step-preserved c =
    along-on _ _ _ _ _ _ _ _ (omega arith) c.if-at-eq0.false c.is_borne_by.ensures c.if-is_borne_by.false c.field-at.ensures c.loop-step.invariant
