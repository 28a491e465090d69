use Rattle.merge_symbols.specs.Proof.Ways.{add_numbered}
use Rattle.merge_symbols.proofs.Symbols.resolve.Goals as goal

pub returns-clause-numbered : goal.returns-clause-numbered
returns-clause-numbered c = search add_numbered
