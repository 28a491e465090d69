use Rattle.std.proofs.Common.{refl, sym, ap, ◌∙◌, Ok, Err}
use Rattle.std.proofs.lemmas.Result.{err_from_is_err_and}
use Rattle.merge_elf.specs.Proof.Ways.{head-refused, stages-ended}
use Rattle.merge_elf.proofs.merge_object.Goals as goal

pub returns-in_err-check-clause-value : goal.returns-in_err-check-clause-value
returns-in_err-check-clause-value c =
    let p = err_from_is_err_and c.from_residual.result c.from_residual.ensures.1 in
    rw (p.1 ∙ ap Err p.2) (head-refused _ _ _ (sym c.in_err-check.ensures))

pub returns-in-Err-clause-value : goal.returns-in-Err-clause-value
returns-in-Err-clause-value c =
    stages-ended _ _ _ _ c.merge_stages.new.self.link (Err c.in-Err.refusal) (sym c.in_ok-check.ensures) c.in-Err.ensures.value refl c.in-Err.ensures.numbered

pub returns-clause-value : goal.returns-clause-value
returns-clause-value c =
    stages-ended _ _ _ _ c.merge_stages.new.self.link (Ok tt) (sym c.in_ok-check.ensures) c.in_default.ensures.value refl tt
