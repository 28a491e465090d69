use Rattle.std.proofs.Common.{sym, ap, ◌∙◌, Err}
use Rattle.std.proofs.lemmas.Result.{err_from_is_err_and}
use Rattle.link.specs.Proof.Judged.{first-stops, first-goes, lists-first}
use Rattle.link.proofs.Link.judge_lists.Goals as goal

pub returns-in_err-within : goal.returns-in_err-within
returns-in_err-within c =
    let p = err_from_is_err_and c.from_residual.result c.from_residual.ensures.1 in
    rw lists-first (first-stops _ _ _ _ (p.1 ∙ ap Err p.2) (sym (rw c.input_rows.ensures at c.within.ensures) ∙ c.in_err-within.was))

pub returns : goal.returns
returns c = rw lists-first (first-goes _ _ _ _ c.within-2.ensures (sym (rw c.input_rows.ensures at c.within.ensures) ∙ c.in_ok-within.was))
