use Rattle.shared_objects.specs.Proof.NeedWays.{named_none, named_more, named-all}
use Rattle.shared_objects.proofs.need.mark_names.Goals as goal

pub loop-name-init : goal.loop-name-init
loop-name-init c = named_none _ _

pub loop-name-preserved : goal.loop-name-preserved
loop-name-preserved c = search named_more

pub returns : goal.returns
returns c = search named-all
