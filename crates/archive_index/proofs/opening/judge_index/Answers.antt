use Rattle.archive_index.specs.Proof.Ways.{index-offsets}
use Rattle.archive_index.proofs.opening.judge_index.Goals as goal

pub returns-then-whole-entries : goal.returns-then-whole-entries
returns-then-whole-entries c = search index-offsets
