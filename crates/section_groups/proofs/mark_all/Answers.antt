use Rattle.std.proofs.Common.{refl}
use Rattle.section_groups.specs.Proof.Ways.{mark-start, mark-on, mark-end}
use Rattle.section_groups.proofs.mark_all.Goals as goal

pub loop-i-init : goal.loop-i-init
loop-i-init c = mark-start _ _ _ _ refl

pub loop-i-preserved : goal.loop-i-preserved
loop-i-preserved c = mark-on _ _ _ _ c.loop-i.i _ _ c.loop-i-test.true c.get.ensures c.mark_one.ensures c.loop-i.invariant

pub returns : goal.returns
returns c = mark-end _ _ _ _ c.loop-i.i c.loop-i-test.false c.loop-i.invariant
