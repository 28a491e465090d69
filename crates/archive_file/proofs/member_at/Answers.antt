use Rattle.archive_file.specs.Proof.Ways.{past-end}
use Rattle.archive_file.proofs.member_at.Goals as goal

pub returns-then-at-file-clause-value : goal.returns-then-at-file-clause-value
returns-then-at-file-clause-value c = past-end _ _ c.if-at-file.true
