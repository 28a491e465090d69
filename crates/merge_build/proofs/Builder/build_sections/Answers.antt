use Rattle.std.proofs.Common.{rules, refl, ap, ◌∙◌, Err}
use Rattle.std.proofs.lemmas.Result.{err_from_is_err_and}
use Rattle.merge_build.specs.Proof.BuildWays.{reached-start, reached-end, reached-stop, reached-on}
use Rattle.merge_build.proofs.Builder.build_sections.Goals as goal

pub loop-n-init : goal.loop-n-init
loop-n-init c = record { loans = search rules; inputs = refl; reached = rw c.section_count-n-end.ensures (reached-start _ _ _) }

pub returns-in_err-build_section-clause-value : goal.returns-in_err-build_section-clause-value
returns-in_err-build_section-clause-value c =
    let p = err_from_is_err_and c.from_residual.result c.from_residual.ensures.1 in
    rw (p.1 ∙ ap Err p.2) (search (reached-stop, c.in_err-build_section.ensures.value, c.in_err-build_section.ensures.numbered))

pub loop-n-preserved : goal.loop-n-preserved
loop-n-preserved c = record {
  loans = search rules;
  inputs = search rules;
  reached = search (reached-on, c.in_ok-build_section.ensures.value);
}

pub returns-clause-value : goal.returns-clause-value
returns-clause-value c = search reached-end
