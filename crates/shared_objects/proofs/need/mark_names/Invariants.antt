use Rattle.shared_objects.specs.Proof.NeedWays.{Named}
use Rattle.shared_objects.proofs.need.mark_names.Given as goal

abbrev pub invariant-loop-name : goal.invariant-loop-name
invariant-loop-name l = Named l.name-index l.part l.initial.marks l.marks
