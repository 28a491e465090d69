use Rattle.std.proofs.Common.{arith, rules, sym, ap, ◌∙◌, Err}
use Rattle.std.proofs.lemmas.Result.{err_from_is_err_and}
use Rattle.lot_report.specs.Proof.Ways.{judge-refused, report-full, own-past, total-past, title-added}
use Rattle.lot_report.proofs.Report.add_title.Goals as goal

pub returns-in_err-judge : goal.returns-in_err-judge
returns-in_err-judge c =
    let p = err_from_is_err_and c.from_residual.result c.from_residual.ensures.1 in
    rw (p.1 ∙ ap Err p.2) (judge-refused _ _ _ (sym c.judge.ensures ∙ c.in_err-judge.was))

pub returns-then-self-ge-MOST_TITLES : goal.returns-then-self-ge-MOST_TITLES
returns-then-self-ge-MOST_TITLES c = rw c.new.ensures (report-full _ _ _ (sym c.judge.ensures ∙ c.in_ok-judge.was) c.if-self-ge-MOST_TITLES.true)

pub returns-in_default : goal.returns-in_default
returns-in_default c =
    rw c.new-too_large.ensures
    (own-past _ _ _ (sym c.judge.ensures ∙ c.in_ok-judge.was) c.if-self-ge-MOST_TITLES.false (search rules) (sym c.figures.ensures ∙ c.in_default.is))

pub returns-in_default-plus : goal.returns-in_default-plus
returns-in_default-plus c =
    rw c.new-too_large.ensures
    (total-past _ _ _ (sym c.judge.ensures ∙ c.in_ok-judge.was) c.if-self-ge-MOST_TITLES.false _ (sym c.figures.ensures ∙ c.in-Some.is)
    (sym c.plus.ensures ∙ c.in_default-plus.is))

pub returns : goal.returns
returns c =
    title-added _ _ _ (sym c.judge.ensures ∙ c.in_ok-judge.was) c.if-self-ge-MOST_TITLES.false _ (sym c.figures.ensures ∙ c.in-Some.is) _ (sym c.plus.ensures ∙ c.in-Some-plus.is)
