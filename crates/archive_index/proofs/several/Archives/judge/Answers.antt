use Rattle.std.proofs.Common.{sym, ap, ◌∙◌, Err, rules}
use Rattle.std.proofs.lemmas.Result.{err_from_is_err_and}
use Rattle.link.specs.Proof.Judged.{first-stops, first-goes}
use Rattle.archive_index.specs.Proof.Ways.{rows-short, rows-enough}
use Rattle.archive_index.specs.Open.{judge_archives}
use Rattle.archive_index.proofs.several.Archives.judge.Goals as goal

pub returns-in_err-judge_ends : goal.returns-in_err-judge_ends
unfolding judge_archives
returns-in_err-judge_ends c =
    let p = err_from_is_err_and c.from_residual.result c.from_residual.ensures.1 in
    first-stops _ _ _ _ (p.1 ∙ ap Err p.2) (sym c.judge_ends.ensures ∙ c.in_err-judge_ends.was)

pub returns-in_err-judge_filled : goal.returns-in_err-judge_filled
unfolding judge_archives
returns-in_err-judge_filled c =
    let p = err_from_is_err_and c.from_residual-in_err-judge_filled.result c.from_residual-in_err-judge_filled.ensures.1 in
    first-goes _ _ _ _ (first-stops _ _ _ _ (p.1 ∙ ap Err p.2) (sym c.judge_filled.ensures ∙ c.in_err-judge_filled.was)) (sym c.judge_ends.ensures ∙ c.in_ok-judge_ends.was)

pub returns-in_err-judge_contents : goal.returns-in_err-judge_contents
unfolding judge_archives
returns-in_err-judge_contents c =
    let p = err_from_is_err_and c.from_residual-in_err-judge_contents.result c.from_residual-in_err-judge_contents.ensures.1 in
    first-goes _ _ _ _ (first-goes _ _ _ _ (first-stops _ _ _ _ (p.1 ∙ ap Err p.2) (sym c.judge_contents.ensures ∙ c.in_err-judge_contents.was)) (sym c.judge_filled.ensures ∙ c.in_ok-judge_filled.was)) (sym c.judge_ends.ensures ∙ c.in_ok-judge_ends.was)

pub returns-then-rows-entries : goal.returns-then-rows-entries
unfolding judge_archives
returns-then-rows-entries c =
    first-goes _ _ _ _ (first-goes _ _ _ _ (first-goes _ _ _ _ (rows-short _ _ _ _ c.entries.ensures c.if-rows-entries.true (search rules)) (sym c.judge_contents.ensures ∙ c.in_ok-judge_contents.was)) (sym c.judge_filled.ensures ∙ c.in_ok-judge_filled.was)) (sym c.judge_ends.ensures ∙ c.in_ok-judge_ends.was)

pub returns : goal.returns
unfolding judge_archives
returns c =
    first-goes _ _ _ _ (first-goes _ _ _ _ (first-goes _ _ _ _ (rows-enough _ _ _ c.entries.ensures c.if-rows-entries.false) (sym c.judge_contents.ensures ∙ c.in_ok-judge_contents.was)) (sym c.judge_filled.ensures ∙ c.in_ok-judge_filled.was)) (sym c.judge_ends.ensures ∙ c.in_ok-judge_ends.was)
