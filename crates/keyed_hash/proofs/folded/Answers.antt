use Rattle.std.proofs.Common.{rules}
use Rattle.keyed_hash.specs.Keyed.{folded}
use Rattle.keyed_hash.proofs.folded.Goals as goal

pub returns : goal.returns
unfolding folded
returns c = search rules
