use Rattle.archive_walk.specs.Proof.PassesWays.{noted_more, survey-hit, survey-on, survey-end}
use Rattle.archive_walk.proofs.passes.Notes.survey.Goals as goal

pub returns-in-Removed-clause-value : goal.returns-in-Removed-clause-value
returns-in-Removed-clause-value c = search survey-hit

pub loop-k-preserved : goal.loop-k-preserved
loop-k-preserved c = record { removed = search survey-on; noted = search noted_more }

pub returns-clause-value : goal.returns-clause-value
returns-clause-value c = search survey-end
