use Rattle.std.proofs.Common.{◌≡◌, ◌++◌, take, drop}
use Rattle.archive_file.specs.Members.{until}
use Rattle.archive_file.proofs.until.Given as goal

abbrev pub invariant-loop-k : goal.invariant-loop-k
invariant-loop-k l = until l.end l.x ≡ take l.k l.x ++ until l.end (drop l.k l.x)
