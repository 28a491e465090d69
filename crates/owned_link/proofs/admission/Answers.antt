use Rattle.std.proofs.Common.{sym, ap, ◌∙◌, Err}
use Rattle.std.proofs.lemmas.Result.{err_from_is_err_and}
use Rattle.merge_file.specs.Proof.Ways.{written-room}
use Rattle.owned_link.specs.Proof.Ways.{cells-left, unread, read}
use Rattle.owned_link.proofs.admission.Goals as goal

pub object_in-object-requires : goal.object_in-object-requires
object_in-object-requires c = written-room _ _ _ _ c.in_ok-written.ensures

pub returns-in_err-written : goal.returns-in_err-written
returns-in_err-written c =
    let p = err_from_is_err_and c.from_residual.result c.from_residual.ensures.1 in
    record {
      answers = rw (p.1 ∙ ap Err p.2) (unread c.args.link c.args.image.now c.args.walk c.args.index.now c.args.cells.now c.args.entry _ _ _ c.in_err-written.ensures);
      rows = cells-left c.args.link c.args.image.now c.args.walk c.args.index.now c.args.cells.now c.args.entry _ _ _ c.in_err-written.ensures;
    }

pub returns : goal.returns
returns c =
    record {
      answers = read c.args.link c.args.image.now c.args.walk c.args.index.now c.args.cells.now c.args.entry _ _ _ _ _ c.in_ok-written.ensures c.object_in-object.ensures c.matches.ensures;
      rows = cells-left c.args.link c.args.image.now c.args.walk c.args.index.now c.args.cells.now c.args.entry _ _ _ c.in_ok-written.ensures;
    }
