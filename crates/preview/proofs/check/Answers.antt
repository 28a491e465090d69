use Rattle.std.proofs.Common.{sym, ap, ◌∙◌, Err}
use Rattle.std.proofs.lemmas.Result.{err_from_is_err_and}
use Rattle.link.specs.Proof.Judged.{first-stops, first-goes}
use Rattle.preview.specs.Preview.{judged_of, head_of}
use Rattle.preview.proofs.check.Goals as goal

pub returns-in_err-judge_change : goal.returns-in_err-judge_change
unfolding head_of judged_of
returns-in_err-judge_change c =
    let p = err_from_is_err_and c.from_residual.result c.from_residual.ensures.1 in
    first-stops _ _ _ _ (p.1 ∙ ap Err p.2) (sym c.judge_change.ensures ∙ c.in_err-judge_change.was)

pub returns-in_err-judge : goal.returns-in_err-judge
unfolding head_of judged_of
returns-in_err-judge c =
    let p = err_from_is_err_and c.from_residual-in_err-judge.result c.from_residual-in_err-judge.ensures.1 in
    first-goes _ _ _ _ (first-stops _ _ _ _ (p.1 ∙ ap Err p.2) (sym c.judge.ensures ∙ c.in_err-judge.was)) (sym c.judge_change.ensures ∙ c.in_ok-judge_change.was)

pub returns : goal.returns
unfolding head_of judged_of
returns c =
    first-goes _ _ _ _ (first-goes _ _ _ _ c.check_room.ensures.value (sym c.judge.ensures ∙ c.in_ok-judge.was)) (sym c.judge_change.ensures ∙ c.in_ok-judge_change.was)
