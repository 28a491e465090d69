use Rattle.text.specs.Proof.WritingWays.{puts_then}
use Rattle.replay_text.specs.Answers.{numbered}
use Rattle.replay_text.proofs.put_numbered.Goals as goal

pub returns : goal.returns
unfolding numbered
returns c = puts_then _ _ _ _ _ c.put.ensures c.put_decimal.ensures.pieces
