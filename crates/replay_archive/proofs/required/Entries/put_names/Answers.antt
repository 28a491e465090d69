use Rattle.std.proofs.Common.{refl, ◌∙◌}
use Rattle.replay_archive.specs.Proof.OfferWays.{names-start, names-on, names-end}
use Rattle.replay_archive.proofs.required.Entries.put_names.Goals as goal

pub loop-init : goal.loop-init
loop-init c = (refl, search names-start)

pub loop-preserved : goal.loop-preserved
loop-preserved c = (c.put_name.ensures.same ∙ c.loop.invariant.0, search names-on)

pub returns : goal.returns
returns c = search names-end
