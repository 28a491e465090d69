use Rattle.std.proofs.Common.{sym, ap, ◌∙◌, Err}
use Rattle.std.proofs.lemmas.Result.{err_from_is_err_and}
use Rattle.link.specs.Proof.Judged.{first-stops, first-goes, names-first}
use Rattle.link.proofs.Link.judge_names.Goals as goal

pub returns-in_err-within : goal.returns-in_err-within
returns-in_err-within c =
    let p = err_from_is_err_and c.from_residual.result c.from_residual.ensures.1 in
    rw names-first (first-stops _ _ _ _ (p.1 ∙ ap Err p.2) (sym c.within.ensures ∙ c.in_err-within.was))

pub returns-in_err-within-2 : goal.returns-in_err-within-2
returns-in_err-within-2 c =
    let p = err_from_is_err_and c.from_residual-in_err-within-2.result c.from_residual-in_err-within-2.ensures.1 in
    rw names-first (first-goes _ _ _ _ (first-stops _ _ _ _ (p.1 ∙ ap Err p.2) (sym c.within-2.ensures ∙ c.in_err-within-2.was)) (sym c.within.ensures ∙ c.in_ok-within.was))

pub returns : goal.returns
returns c =
    rw names-first (first-goes _ _ _ _ (first-goes _ _ _ _ (rw c.name_byte_room.ensures at c.within-3.ensures) (sym c.within-2.ensures ∙ c.in_ok-within-2.was))
    (sym c.within.ensures ∙ c.in_ok-within.was))
