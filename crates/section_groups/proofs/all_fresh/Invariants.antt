use Rattle.section_groups.specs.Group.{is_fresh}
use Rattle.section_groups.specs.Proof.Ways.{Reached}
use Rattle.section_groups.proofs.all_fresh.Given as goal

abbrev pub invariant-loop-i : goal.invariant-loop-i
invariant-loop-i l = Reached (is_fresh l.work l.sections) l.listed l.i
