use Rattle.name_index.specs.Proof.Ways.{stood, halving-start, halving-up, halving-met, halving-down, halving-end}
use Rattle.name_index.proofs.seek.Goals as goal

pub loop-low-init : goal.loop-low-init
loop-low-init c = halving-start _ _ _

pub loop-low-preserved-in-Less : goal.loop-low-preserved-in-Less
loop-low-preserved-in-Less c = halving-up _ _ _ _ _ _ c.loop-low.invariant c.loop-low-test.true (stood _ _ _ _ _ _ c.name.ensures c.in-Less.ensures)

pub returns-in-Equal-clause-met : goal.returns-in-Equal-clause-met
returns-in-Equal-clause-met c = halving-met _ _ _ _ _ _ c.loop-low.invariant c.loop-low-test.true (stood _ _ _ _ _ _ c.name.ensures c.in-Equal.ensures)

pub loop-low-preserved : goal.loop-low-preserved
loop-low-preserved c = halving-down _ _ _ _ _ _ c.loop-low.invariant c.loop-low-test.true (stood _ _ _ _ _ _ c.name.ensures c.in-Greater.ensures)

pub returns-clause-met : goal.returns-clause-met
returns-clause-met c = halving-end _ _ _ _ _ _ c.loop-low.invariant c.loop-low-test.false
