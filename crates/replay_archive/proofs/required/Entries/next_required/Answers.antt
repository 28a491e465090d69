use Rattle.replay_archive.specs.Proof.OfferWays.{next_start, next-on, next-end}
use Rattle.replay_archive.proofs.required.Entries.next_required.Goals as goal

pub loop-k-init : goal.loop-k-init
loop-k-init c = search next_start

pub loop-k-preserved : goal.loop-k-preserved
loop-k-preserved c = search next-on

pub returns : goal.returns
returns c = search next-end
