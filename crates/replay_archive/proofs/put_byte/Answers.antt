use Rattle.replay_archive.specs.Proof.Ways.{byte-out}
use Rattle.replay_archive.proofs.put_byte.Goals as goal

pub returns-else-i-file : goal.returns-else-i-file
returns-else-i-file c = search byte-out
