use Rattle.merge_build.specs.Proof.RelocationWays.{Appended}
use Rattle.merge_build.proofs.append_ids.Given as goal

abbrev pub invariant-loop-j : goal.invariant-loop-j
invariant-loop-j l = Appended l.j l.ids l.at l.symbols l.initial.lists l.lists
