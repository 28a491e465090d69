use Rattle.ffi_cells.specs.Proof.Ways.{answer_told}
use Rattle.ffi_cells.proofs.header.answer.Goals as goal

pub returns : goal.returns
returns c = answer_told c.args.header.now c.put_answer.new.header c.args.r c.put_answer.ensures
