use Rattle.shared_objects.specs.Proof.NeedWays.{marked_start, marked-on, marked-end}
use Rattle.shared_objects.proofs.Loading.mark_libraries.Goals as goal

pub loop-k-init : goal.loop-k-init
loop-k-init c = marked_start _ _ _ _ _ _

pub loop-k-preserved : goal.loop-k-preserved
loop-k-preserved c = search marked-on

pub returns : goal.returns
returns c = search marked-end
