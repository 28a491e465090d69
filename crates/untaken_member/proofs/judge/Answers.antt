use Rattle.std.proofs.Common.{sym, ap, ◌∙◌, Err}
use Rattle.std.proofs.lemmas.Result.{err_from_is_err_and}
use Rattle.link.specs.Proof.Judged.{first-stops, first-goes}
use Rattle.untaken_member.specs.Untaken.{head_of}
use Rattle.untaken_member.proofs.judge.Goals as goal

pub returns-in_err-judge : goal.returns-in_err-judge
unfolding head_of
returns-in_err-judge c =
    let p = err_from_is_err_and c.from_residual.result c.from_residual.ensures.1 in
    first-stops _ _ _ _ (p.1 ∙ ap Err p.2) (sym c.judge.ensures ∙ c.in_err-judge.was)

pub returns : goal.returns
unfolding head_of
returns c = first-goes _ _ _ _ c.judge-2.ensures (sym c.judge.ensures ∙ c.in_ok-judge.was)
