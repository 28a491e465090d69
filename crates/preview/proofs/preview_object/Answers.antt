use Rattle.std.proofs.Common.{sym, ap, ◌∙◌, Err}
use Rattle.std.proofs.lemmas.Result.{err_from_is_err_and}
use Rattle.preview.specs.Proof.Ways.{head-room, preview-refused, preview-merged}
use Rattle.preview.proofs.preview_object.Goals as goal

pub returns-in_err-check-clause-value : goal.returns-in_err-check-clause-value
returns-in_err-check-clause-value c =
    let p = err_from_is_err_and c.from_residual.result c.from_residual.ensures.1 in
    rw (p.1 ∙ ap Err p.2) (preview-refused _ _ _ _ (sym c.check.ensures ∙ c.in_err-check.was))

pub copy-requires : goal.copy-requires
copy-requires c = (head-room _ _ _ _ (sym c.check.ensures ∙ c.in_ok-check.was)).bytes

pub copy-requires-2 : goal.copy-requires-2
copy-requires-2 c = (head-room _ _ _ _ (sym c.check.ensures ∙ c.in_ok-check.was)).names

pub copy-requires-3 : goal.copy-requires-3
copy-requires-3 c = (head-room _ _ _ _ (sym c.check.ensures ∙ c.in_ok-check.was)).symbols

pub copy-requires-4 : goal.copy-requires-4
copy-requires-4 c = (head-room _ _ _ _ (sym c.check.ensures ∙ c.in_ok-check.was)).sections

pub copy-requires-5 : goal.copy-requires-5
copy-requires-5 c = (head-room _ _ _ _ (sym c.check.ensures ∙ c.in_ok-check.was)).inputs

pub copy-requires-6 : goal.copy-requires-6
copy-requires-6 c = (head-room _ _ _ _ (sym c.check.ensures ∙ c.in_ok-check.was)).lists

pub returns-clause-value : goal.returns-clause-value
returns-clause-value c =
    preview-merged _ _ _ _ (sym c.check.ensures ∙ c.in_ok-check.was) _ _ _ _ _ _ c.copy.ensures c.copy-2.ensures c.copy-3.ensures
    c.copy-4.ensures c.copy-5.ensures c.copy-6.ensures _ _ _ _ _ _ _ _ _ c.merge_elf-outcome.ensures
