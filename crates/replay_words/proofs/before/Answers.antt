use Rattle.std.proofs.Common.{◌∙◌}
use Rattle.replay_words.specs.Proof.OrderWays.{before-is}
use Rattle.replay_words.proofs.before.Goals as goal

pub returns : goal.returns
returns c = c.lt.ensures ∙ before-is _ _
