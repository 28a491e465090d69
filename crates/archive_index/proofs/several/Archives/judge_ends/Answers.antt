use Rattle.std.proofs.Common.{arith, rules, refl}
use Rattle.archive_index.specs.Proof.Ways.{not-start, not-on, not-here, not-end}
use Rattle.archive_index.proofs.several.Archives.judge_ends.Goals as goal

pub loop-j-init : goal.loop-j-init
loop-j-init c = not-start _ _ 0 _ refl

pub loop-j-preserved : goal.loop-j-preserved
loop-j-preserved c = search not-on

pub returns-then-not-end_fits : goal.returns-then-not-end_fits
returns-then-not-end_fits c = not-here _ _ _ c.loop-j.j 1 _ _ c.loop-j-test.true c.end_fits.ensures c.if-not-end_fits.true c.loop-j.invariant (λ z. omega arith) (search rules)

pub returns : goal.returns
returns c = search not-end
