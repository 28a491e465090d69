use Rattle.std.proofs.Common.{rules, ap, ◌∙◌, Err}
use Rattle.std.proofs.lemmas.Result.{err_from_is_err_and}
use Rattle.section_groups.specs.Group.{groups_of}
use Rattle.section_groups.specs.Proof.Ways.{groups-start, groups-end, groups-stop, groups-on}
use Rattle.section_groups.proofs.Grouping.add_groups.Goals as goal

pub loop-n-init : goal.loop-n-init
unfolding groups_of
loop-n-init c = record { loans = search rules; reached = rw c.section_count-n-end.ensures (groups-start _ _ _) }

pub returns-in_err-take_section-clause-value : goal.returns-in_err-take_section-clause-value
returns-in_err-take_section-clause-value c =
    let p = err_from_is_err_and c.from_residual.result c.from_residual.ensures.1 in
    rw (p.1 ∙ ap Err p.2) (search (groups-stop, c.in_err-take_section.ensures.value, c.in_err-take_section.ensures.numbered))

pub loop-n-preserved : goal.loop-n-preserved
loop-n-preserved c = record {
  loans = search rules;
  reached = search (groups-on, c.in_ok-take_section.ensures.value);
}

pub returns-clause-value : goal.returns-clause-value
returns-clause-value c = search groups-end
