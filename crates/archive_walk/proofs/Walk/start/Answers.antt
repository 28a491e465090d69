use Rattle.std.proofs.lemmas.Result.{err_from_is_err_and}
use Rattle.archive_walk.specs.Proof.Ways.{start-made, start-refused}
use Rattle.archive_walk.proofs.Walk.start.Goals as goal

pub returns-in_err-entries : goal.returns-in_err-entries
returns-in_err-entries c =
    let p = err_from_is_err_and c.from_residual.result c.from_residual.ensures.1 in
    rw (p.1, p.2) (start-refused _ _ _ _ _ c.open.ensures.cells c.in_err-entries.ensures.answer)

pub returns : goal.returns
returns c = start-made _ _ _ _ _ _ _ c.open.ensures.cells c.in_ok-entries.ensures.answer c.clear_heads.ensures c.end.ensures
