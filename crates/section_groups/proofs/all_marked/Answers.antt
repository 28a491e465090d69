use Rattle.std.proofs.Common.{ltb, refl}
use borrow.Author.Tests.{lt-ltb, le-ltb}
use Rattle.section_groups.specs.Group.{all_marked}
use Rattle.section_groups.specs.Proof.Ways.{each-start, each-on, each-stop, each-end}
use Rattle.section_groups.proofs.all_marked.Goals as goal

pub loop-i-init : goal.loop-i-init
loop-i-init c = each-start (λ x. ltb x c.args.marks) c.args.listed.now

pub returns-then-marks-get : goal.returns-then-marks-get
unfolding all_marked
returns-then-marks-get c =
    each-stop (λ x. ltb x c.args.marks) c.args.listed.now c.loop-i.i c.loop-i.invariant c.get.result (ltb c.get.result c.args.marks) c.loop-i-test.true c.get.ensures refl (le-ltb _ _ c.if-marks-get.true)

pub loop-i-preserved : goal.loop-i-preserved
loop-i-preserved c =
    each-on (λ x. ltb x c.args.marks) c.args.listed.now c.loop-i.i c.loop-i.invariant c.get.result (ltb c.get.result c.args.marks) c.loop-i-test.true c.get.ensures refl (lt-ltb _ _ c.if-marks-get.false)

pub returns : goal.returns
unfolding all_marked
returns c = each-end (λ x. ltb x c.args.marks) c.args.listed.now c.loop-i.i c.loop-i.invariant c.loop-i-test.false
