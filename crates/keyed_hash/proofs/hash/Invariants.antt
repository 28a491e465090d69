use Rattle.std.proofs.Common.{◌*◌, ◌<◌}
use Rattle.keyed_hash.specs.Ways.{Rest}
use Rattle.keyed_hash.proofs.hash.Given as goal

abbrev pub invariant-loop-k : goal.invariant-loop-k
invariant-loop-k l = (l.h < 0x400000000) × Rest l.r l.x (l.k * 4) l.h
