use Rattle.std.proofs.Common.{◌≡◌, ◌*◌}
use Rattle.std.proofs.Math.Seq.{paste}
use Rattle.byte_slices.proofs.copy_words.Given as goal

abbrev pub invariant-loop-k : goal.invariant-loop-k
invariant-loop-k l = l.dst ≡ paste l.initial.dst l.at l.x (l.k * 8)
