use Rattle.archive_index.specs.Proof.Ways.{descend-on}
use Rattle.archive_index.proofs.opening.search.Goals as goal

pub loop-step-preserved : goal.loop-step-preserved
loop-step-preserved c = search descend-on
