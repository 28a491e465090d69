use Rattle.std.proofs.Common.{refl, ap, ◌∙◌, Err}
use Rattle.std.proofs.lemmas.Result.{err_from_is_err_and}
use Rattle.merge_stages.specs.Proof.Ways.{stages-stopped, stages-done}
use Rattle.merge_stages.proofs.Merge.merge_stages.Goals as goal

pub returns-in_err-table-clause-value : goal.returns-in_err-table-clause-value
returns-in_err-table-clause-value c =
    let p = err_from_is_err_and c.from_residual.result c.from_residual.ensures.1 in
    rw (p.1 ∙ ap Err p.2) (stages-stopped _ _ _ c.in_err-table.ensures.value c.in_err-table.ensures.numbered)

pub returns-clause-value : goal.returns-clause-value
returns-clause-value c =
    let r = c.in_ok-table.ensures in
    stages-done _ _ _ r.value _ _ refl r.table (rw (c.loaded.ensures, c.clear_absent.ensures, c.section_count.ensures, c.note_tables.ensures) at c.merge_groups.ensures.value)
