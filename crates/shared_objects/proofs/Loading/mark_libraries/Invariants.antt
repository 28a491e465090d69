use Rattle.shared_objects.specs.Proof.NeedWays.{Marked}
use Rattle.shared_objects.proofs.Loading.mark_libraries.Given as goal

abbrev pub invariant-loop-k : goal.invariant-loop-k
invariant-loop-k l = Marked l.k l.self.inputs.now l.self.lists.now l.id l.self.link.names l.self.link.inputs l.initial.marks l.marks
