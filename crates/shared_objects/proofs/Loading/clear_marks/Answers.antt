use Rattle.std.proofs.Common.{rules}
use Rattle.shared_objects.specs.Proof.NeedWays.{cleared-start, cleared-on, cleared-end}
use Rattle.shared_objects.proofs.Loading.clear_marks.Goals as goal

pub loop-i-init : goal.loop-i-init
loop-i-init c = search (rules, cleared-start)

pub loop-i-preserved : goal.loop-i-preserved
loop-i-preserved c = cleared-on _ _ _ _ _ _ _ _ _ _ c.loop-i.invariant c.loop-i-test.true c.clear_mark.ensures

pub returns : goal.returns
returns c = cleared-end _ _ _ _ _ _ _ _ _ c.loop-i.invariant c.loop-i-test.false
