use Rattle.std.proofs.Common.{ltb}
use Rattle.section_groups.specs.Proof.Ways.{Reached}
use Rattle.section_groups.proofs.all_marked.Given as goal

abbrev pub invariant-loop-i : goal.invariant-loop-i
invariant-loop-i l = Reached (λ x. ltb x l.marks) l.listed l.i
