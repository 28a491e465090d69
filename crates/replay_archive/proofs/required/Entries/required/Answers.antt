use Rattle.replay_archive.specs.Proof.OfferWays.{count-start, count-end, count-on, count-out}
use Rattle.replay_archive.proofs.required.Entries.required.Goals as goal

pub loop-init : goal.loop-init
loop-init c = search count-start

pub returns-in_default : goal.returns-in_default
returns-in_default c = search count-end

pub loop-preserved : goal.loop-preserved
loop-preserved c = search count-on

pub returns : goal.returns
returns c = search count-out
