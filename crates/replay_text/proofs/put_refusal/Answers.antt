use Rattle.text.specs.Proof.WritingWays.{puts_then}
use Rattle.replay_text.specs.Answers.{refusal_text}
use Rattle.replay_text.proofs.put_refusal.Goals as goal

pub returns : goal.returns
unfolding refusal_text
returns c = puts_then _ _ _ _ _ c.put_numbered.ensures c.put_numbered-2.ensures
