use Rattle.archive_index.specs.Proof.Ways.{cut_on, cut-here}
use Rattle.archive_index.proofs.opening.judge_names.Goals as goal

pub returns-in-None : goal.returns-in-None
returns-in-None c = search cut-here

pub loop-k-preserved : goal.loop-k-preserved
loop-k-preserved c = search cut_on
