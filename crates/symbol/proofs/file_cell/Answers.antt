use Rattle.symbol.specs.Proof.Ways.{cell-named}
use Rattle.symbol.proofs.file_cell.Goals as goal

pub returns-in-Some : goal.returns-in-Some
returns-in-Some c = search cell-named
