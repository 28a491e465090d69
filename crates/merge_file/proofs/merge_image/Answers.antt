use Rattle.std.proofs.Common.{ap, ◌∙◌, Err}
use Rattle.std.proofs.lemmas.Result.{err_from_is_err_and}
use Rattle.merge_file.specs.Proof.Ways.{written-room, file-broken, file-merged, file-unread}
use Rattle.merge_file.proofs.merge_image.Goals as goal

pub returns-then-merge-clause-value : goal.returns-then-merge-clause-value
returns-then-merge-clause-value c = rw c.new.ensures (file-broken _ _ _ c.if-merge.true)

pub returns-in_err-written-clause-value : goal.returns-in_err-written-clause-value
returns-in_err-written-clause-value c =
    let p = err_from_is_err_and c.from_residual.result c.from_residual.ensures.1 in
    rw (p.1 ∙ ap Err p.2) (file-unread _ _ _ _ c.if-merge.false _ c.in_err-written.ensures)

pub object_in-requires : goal.object_in-requires
object_in-requires c = written-room _ _ _ _ c.in_ok-written.ensures

pub returns-clause-value : goal.returns-clause-value
returns-clause-value c =
    file-merged _ _ _ _ c.if-merge.false _ _ c.in_ok-written.ensures (rw c.object_in.ensures at c.merge_object.ensures.value)
