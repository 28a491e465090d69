use Rattle.std.proofs.Common.{refl, ap, ◌∙◌, Err}
use Rattle.std.proofs.lemmas.Result.{err_from_is_err_and}
use Rattle.merge_stages.specs.Stages.{put_symbols, merge_before}
use Rattle.merge_stages.specs.Proof.Ways.{groups-stopped, groups-filtered, groups-passed}
use Rattle.merge_stages.proofs.Merge.merge_groups.Goals as goal

pub returns-in_err-add_groups-clause-value : goal.returns-in_err-add_groups-clause-value
returns-in_err-add_groups-clause-value c =
    let p = err_from_is_err_and c.from_residual.result c.from_residual.ensures.1 in
    rw (p.1 ∙ ap Err p.2) (groups-stopped _ _ _ c.in_err-add_groups.ensures.value c.in_err-add_groups.ensures.numbered)

pub returns-in-Some-clause-value : goal.returns-in-Some-clause-value
returns-in-Some-clause-value c =
    rw c.new.ensures (groups-filtered _ _ _ c.in_ok-add_groups.ensures.value refl _ c.in-Some.ensures.first c.in-Some.ensures.within)

pub returns-clause-value : goal.returns-clause-value
returns-clause-value c =
    let m = c.merge_table.ensures in
    groups-passed _ _ _ c.in_ok-add_groups.ensures.value refl _ c.in_default.ensures.first
    (rw m.work (ap (put_symbols (merge_before c.add_groups.new.self)) m.value))
