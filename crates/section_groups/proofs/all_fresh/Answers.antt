use Rattle.section_groups.specs.Group.{is_fresh, all_fresh}
use Rattle.section_groups.specs.Proof.Ways.{each-start, each-on, each-stop, each-end}
use Rattle.section_groups.proofs.all_fresh.Goals as goal

pub loop-i-init : goal.loop-i-init
loop-i-init c = each-start (is_fresh c.args.work.now c.args.sections) c.args.listed.now

pub returns-then-not-is_fresh : goal.returns-then-not-is_fresh
unfolding all_fresh
returns-then-not-is_fresh c =
    each-stop (is_fresh c.args.work.now c.args.sections) c.args.listed.now c.loop-i.i c.loop-i.invariant _ _ c.loop-i-test.true c.get.ensures c.is_fresh.ensures c.if-not-is_fresh.true

pub loop-i-preserved : goal.loop-i-preserved
loop-i-preserved c =
    each-on (is_fresh c.args.work.now c.args.sections) c.args.listed.now c.loop-i.i c.loop-i.invariant _ _ c.loop-i-test.true c.get.ensures c.is_fresh.ensures c.if-not-is_fresh.false

pub returns : goal.returns
unfolding all_fresh
returns c = each-end (is_fresh c.args.work.now c.args.sections) c.args.listed.now c.loop-i.i c.loop-i.invariant c.loop-i-test.false
