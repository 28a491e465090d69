use Rattle.ffi_cells.specs.Proof.Ways.{names_told}
use Rattle.ffi_cells.proofs.header.tell_names.Goals as goal

pub returns : goal.returns
returns c = names_told c.args.header.now c.args.names c.args.bytes c.settle.new.header c.args.r (rw (← c.put.ensures, ← c.put-2.ensures) c.settle.ensures)
