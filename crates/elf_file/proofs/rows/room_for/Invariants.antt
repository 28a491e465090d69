use Rattle.elf_file.specs.Proof.LoopWays.{Kept}
use Rattle.elf_file.proofs.rows.room_for.Given as goal

abbrev pub invariant-loop-i : goal.invariant-loop-i
invariant-loop-i l = Kept l.cells l.table l.n l.i l.left l.room
