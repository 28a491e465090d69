use Rattle.text.specs.Proof.WritingWays.{puts_then}
use Rattle.replay_text.specs.Answers.{file_text}
use Rattle.replay_text.proofs.put_file.Goals as goal

pub returns-in-Some : goal.returns-in-Some
unfolding file_text
returns-in-Some c = rw c.in-Some.is (puts_then _ _ _ _ _ c.put-in-Some.ensures c.put_name.ensures)
