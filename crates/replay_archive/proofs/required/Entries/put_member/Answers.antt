use Rattle.replay_archive.specs.Proof.OfferWays.{member-done}
use Rattle.replay_archive.proofs.required.Entries.put_member.Goals as goal

pub returns : goal.returns
returns c = search member-done
