use Rattle.std.proofs.Common.{arith, rules, sym, ◌∙◌}
use Rattle.lot_report.specs.Proof.Sums.{checked-none, checked-some, summed-none, summed-more, summed-past, summed-all}
use Rattle.lot_report.proofs.Figures.plus.Goals as goal

pub loop-i-init : goal.loop-i-init
loop-i-init c = summed-none _ _ _ (search rules)

pub returns-in_err-sums : goal.returns-in_err-sums
returns-in_err-sums c = c.from_residual.ensures ∙ summed-past _ _ _ (search rules) (search rules) c.loop-i-test.true (checked-none _ (sym c.sum.ensures ∙ c.in_err-sums.was))

pub loop-i-preserved : goal.loop-i-preserved
loop-i-preserved c =
    let k = checked-some _ _ (sym c.sum.ensures ∙ c.in_ok-sums.was) in
    summed-more _ _ _ _ _ c.loop-i.invariant c.loop-i-test.true k.0 (omega (arith, k.0, k.1))

pub returns : goal.returns
returns c = summed-all _ _ _ _ (search rules) (search rules) c.loop-i-test.false c.loop-i.invariant
