use Rattle.ffi_cells.specs.Proof.Ways.{symbols_told}
use Rattle.ffi_cells.proofs.header.tell_symbols.Goals as goal

pub returns : goal.returns
returns c = symbols_told c.args.header.now c.args.symbols c.settle.new.header c.args.r (rw (← c.put.ensures) c.settle.ensures)
