use Rattle.shadowed_members.specs.Marks.{Marked}
use Rattle.shadowed_members.proofs.Offered.mark_all.Given as goal

abbrev pub invariant-loop-i : goal.invariant-loop-i
invariant-loop-i l = Marked l.entries.cells.now l.i l.self.0
