use Rattle.std.proofs.Common.{refl, ap, ◌∙◌, Err}
use Rattle.std.proofs.lemmas.Result.{err_from_is_err_and}
use Rattle.merge_stages.specs.Proof.Ways.{table-stopped, table-built}
use Rattle.merge_stages.proofs.Merge.merge_table.Goals as goal

pub returns-in_err-add_symbols-clause-value : goal.returns-in_err-add_symbols-clause-value
returns-in_err-add_symbols-clause-value c =
    let p = err_from_is_err_and c.from_residual.result c.from_residual.ensures.1 in
    let s = c.in_err-add_symbols.ensures in
    rw (p.1 ∙ ap Err p.2) (table-stopped _ _ _ _ s.value s.numbered)

pub returns-clause-value : goal.returns-clause-value
returns-clause-value c =
    let s = c.in_ok-add_symbols.ensures in
    table-built _ _ _ _ s.value _ refl (rw s.work at c.build.ensures.value)
