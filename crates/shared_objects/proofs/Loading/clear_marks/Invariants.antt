use Rattle.shared_objects.specs.Proof.NeedWays.{Cleared}
use Rattle.shared_objects.proofs.Loading.clear_marks.Given as goal

abbrev pub invariant-loop-i : goal.invariant-loop-i
invariant-loop-i l = Cleared l.i l.self.bytes.now l.self.names.now l.self.link l.library.entries.now l.library.file.now l.i-end l.initial.marks l.marks
