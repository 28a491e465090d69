use Rattle.std.proofs.Common.{rules, refl, ap, ◌∙◌, Err}
use Rattle.std.proofs.lemmas.Result.{err_from_is_err_and}
use Rattle.merge_sections.specs.Reserve.{reserve_all_of}
use Rattle.merge_sections.specs.Proof.Ways.{sections-start, sections-end, sections-stop, sections-on}
use Rattle.merge_sections.proofs.Reserving.reserve_all.Goals as goal

pub loop-n-init : goal.loop-n-init
unfolding reserve_all_of
loop-n-init c = record { loans = (refl, refl); within = λ h. h; reached = rw c.section_count-n-end.ensures (sections-start _ _ _) }

pub returns-in_err-reserve_one-clause-value : goal.returns-in_err-reserve_one-clause-value
returns-in_err-reserve_one-clause-value c =
    let p = err_from_is_err_and c.from_residual.result c.from_residual.ensures.1 in
    rw (p.1 ∙ ap Err p.2) (search (sections-stop, c.in_err-reserve_one.ensures.value, c.in_err-reserve_one.ensures.numbered))

pub loop-n-preserved : goal.loop-n-preserved
loop-n-preserved c = record {
  loans = search rules;
  within = λ h. c.in_ok-reserve_one.ensures.within (c.loop-n.invariant.within h);
  reached = search (sections-on, c.in_ok-reserve_one.ensures.value);
}

pub returns-clause-value : goal.returns-clause-value
returns-clause-value c = search sections-end
