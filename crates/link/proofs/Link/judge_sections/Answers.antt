use Rattle.std.proofs.Common.{sym, ap, ◌∙◌, Err}
use Rattle.std.proofs.lemmas.Result.{err_from_is_err_and}
use Rattle.link.specs.Proof.Judged.{first-stops, first-goes, sections-first}
use Rattle.link.proofs.Link.judge_sections.Goals as goal

pub returns-in_err-within : goal.returns-in_err-within
returns-in_err-within c =
    let p = err_from_is_err_and c.from_residual.result c.from_residual.ensures.1 in
    rw sections-first (first-stops _ _ _ _ (p.1 ∙ ap Err p.2) (sym c.within.ensures ∙ c.in_err-within.was))

pub returns : goal.returns
returns c =
    rw sections-first (first-goes _ _ _ _ (rw c.section_rows.ensures at c.within-2.ensures) (sym c.within.ensures ∙ c.in_ok-within.was))
