use Rattle.gc_sections.specs.Proof.EachWays.{each_on, each-end}
use Rattle.gc_sections.specs.Reach.{clear_cell}
use Rattle.gc_sections.proofs.reach.clear.Goals as goal

pub loop-i-preserved : goal.loop-i-preserved
unfolding clear_cell
loop-i-preserved c = each_on _ _ _ _ _ _ c.loop-i-test.true c.put.ensures c.loop-i.invariant

pub returns : goal.returns
returns c = each-end _ _ _ _ _ c.loop-i-test.false c.loop-i.invariant
