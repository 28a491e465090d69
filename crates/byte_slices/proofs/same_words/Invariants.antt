use Rattle.std.proofs.Common.{◌*◌}
use Rattle.byte_slices.specs.Proof.Words.{Alike}
use Rattle.byte_slices.proofs.same_words.Given as goal

abbrev pub invariant-loop-k : goal.invariant-loop-k
invariant-loop-k l = Alike l.a l.b (l.k * 8)
