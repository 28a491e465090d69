use Rattle.std.proofs.Common.{sym, ap, ◌∙◌, Err}
use Rattle.std.proofs.lemmas.Result.{err_from_is_err_and}
use Rattle.link.specs.Proof.Judged.{first-stops, first-goes, head-first}
use Rattle.link.proofs.Link.judge.Goals as goal

pub returns-in_err-judge_sections : goal.returns-in_err-judge_sections
returns-in_err-judge_sections c =
    let p = err_from_is_err_and c.from_residual.result c.from_residual.ensures.1 in
    rw head-first (first-stops _ _ _ _ (p.1 ∙ ap Err p.2) (sym c.judge_sections.ensures ∙ c.in_err-judge_sections.was))

pub returns-in_err-within : goal.returns-in_err-within
returns-in_err-within c =
    let p = err_from_is_err_and c.from_residual-in_err-within.result c.from_residual-in_err-within.ensures.1 in
    rw head-first (first-goes _ _ _ _ (first-stops _ _ _ _ (p.1 ∙ ap Err p.2) (sym (rw c.symbol_rows.ensures at c.within.ensures) ∙ c.in_err-within.was)) (sym c.judge_sections.ensures ∙ c.in_ok-judge_sections.was))

pub returns-in_err-judge_names : goal.returns-in_err-judge_names
returns-in_err-judge_names c =
    let p = err_from_is_err_and c.from_residual-in_err-judge_names.result c.from_residual-in_err-judge_names.ensures.1 in
    rw head-first (first-goes _ _ _ _ (first-goes _ _ _ _ (first-stops _ _ _ _ (p.1 ∙ ap Err p.2) (sym c.judge_names.ensures ∙ c.in_err-judge_names.was)) (sym (rw c.symbol_rows.ensures at c.within.ensures) ∙ c.in_ok-within.was)) (sym c.judge_sections.ensures ∙ c.in_ok-judge_sections.was))

pub returns : goal.returns
returns c =
    rw head-first (first-goes _ _ _ _ (first-goes _ _ _ _ (first-goes _ _ _ _ c.judge_lists.ensures (sym c.judge_names.ensures ∙ c.in_ok-judge_names.was))
    (sym (rw c.symbol_rows.ensures at c.within.ensures) ∙ c.in_ok-within.was)) (sym c.judge_sections.ensures ∙ c.in_ok-judge_sections.was))
