use Rattle.std.proofs.Common.{refl, ap, ◌∙◌, Err}
use Rattle.std.proofs.lemmas.Result.{err_from_is_err_and}
use Rattle.merge_build.specs.Proof.Ways.{first-stopped, second-stopped, both-built}
use Rattle.merge_build.proofs.Builder.finish.Goals as goal

pub returns-in_err-build_sections-clause-value : goal.returns-in_err-build_sections-clause-value
returns-in_err-build_sections-clause-value c =
    let p = err_from_is_err_and c.from_residual.result c.from_residual.ensures.1 in
    let s = c.in_err-build_sections.ensures in
    rw (p.1 ∙ ap Err p.2, s.inputs) (first-stopped _ _ _ _ s.value s.numbered refl)

pub returns-in_err-build_sections-2-clause-value : goal.returns-in_err-build_sections-2-clause-value
returns-in_err-build_sections-2-clause-value c =
    let p = err_from_is_err_and c.from_residual-in_err-build_sections-2.result c.from_residual-in_err-build_sections-2.ensures.1 in
    let s = c.in_err-build_sections-2.ensures in
    let u = c.in_ok-build_sections.ensures in
    rw (p.1 ∙ ap Err p.2, s.inputs ∙ u.inputs) (second-stopped _ _ _ _ _ u.value refl s.value s.numbered refl)

pub returns-clause-value : goal.returns-clause-value
returns-clause-value c =
    let s = c.in_ok-build_sections-2.ensures in
    let u = c.in_ok-build_sections.ensures in
    both-built _ _ _ _ _ u.value refl s.value (rw (s.inputs ∙ u.inputs) at c.take_input.ensures.value)
