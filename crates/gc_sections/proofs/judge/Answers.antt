use Rattle.std.proofs.Common.{sym, ap, ◌∙◌, Err}
use Rattle.std.proofs.lemmas.Result.{err_from_is_err_and}
use Rattle.link.specs.Proof.Judged.{first-stops, first-goes}
use Rattle.gc_sections.specs.Run.{judge_of}
use Rattle.gc_sections.proofs.judge.Goals as goal

pub returns-in_err-judge_change : goal.returns-in_err-judge_change
unfolding judge_of
returns-in_err-judge_change c =
    let p = err_from_is_err_and c.from_residual.result c.from_residual.ensures.1 in
    first-stops _ _ _ _ (p.1 ∙ ap Err p.2) (sym c.judge_change.ensures ∙ c.in_err-judge_change.was)

pub returns : goal.returns
unfolding judge_of
returns c =
    first-goes _ _ _ _ c.judge_cells.ensures (sym c.judge_change.ensures ∙ c.in_ok-judge_change.was)
