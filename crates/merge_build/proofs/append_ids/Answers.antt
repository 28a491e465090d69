use Rattle.merge_build.specs.Proof.RelocationWays.{appended-none, appended-all, appended-more}
use Rattle.merge_build.proofs.append_ids.Goals as goal

pub loop-j-init : goal.loop-j-init
loop-j-init c = appended-none _ _ _ _

pub loop-j-preserved : goal.loop-j-preserved
loop-j-preserved c = appended-more _ _ _ _ _ _ _ c.loop-j.invariant c.loop-j-test.true (rw c.id_of.ensures at c.put.ensures)

pub returns : goal.returns
returns c = search appended-all
