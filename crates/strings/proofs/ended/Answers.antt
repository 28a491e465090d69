use Rattle.strings.specs.Proof.Ways.{got, lost, past}
use Rattle.strings.proofs.ended.Goals as goal

pub returns-then-table-offset-clause-ended_meets : goal.returns-then-table-offset-clause-ended_meets
returns-then-table-offset-clause-ended_meets c = past _ _ c.if-table-offset.true

pub returns-then-end-tail-clause-ended_meets : goal.returns-then-end-tail-clause-ended_meets
returns-then-end-tail-clause-ended_meets c = got _ _ _ c.before_zero-end.ensures c.if-end-tail.true

pub returns-clause-ended_meets : goal.returns-clause-ended_meets
returns-clause-ended_meets c = lost _ _ _ c.before_zero-end.ensures c.if-end-tail.false
