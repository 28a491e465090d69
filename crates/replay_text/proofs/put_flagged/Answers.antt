use Rattle.text.specs.Proof.WritingWays.{puts_then}
use Rattle.replay_text.specs.Answers.{flagged}
use Rattle.replay_text.proofs.put_flagged.Goals as goal

pub returns-then-flag : goal.returns-then-flag
unfolding flagged
returns-then-flag c = rw c.if-flag.true (puts_then _ _ _ _ _ c.put.ensures c.put-then-flag.ensures)

pub returns-else-flag : goal.returns-else-flag
unfolding flagged
returns-else-flag c = rw c.if-flag.false (puts_then _ _ _ _ _ c.put.ensures c.put-else-flag.ensures)
