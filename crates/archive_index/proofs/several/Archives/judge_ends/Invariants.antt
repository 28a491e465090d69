use Rattle.std.proofs.Common.{◌≡◌, ◌-◌, length}
use Rattle.archive_index.specs.Archives.{archives_in}
use Rattle.archive_index.specs.Open.{end_fits, first_not}
use Rattle.archive_index.proofs.several.Archives.judge_ends.Given as goal

abbrev pub invariant-loop-j : goal.invariant-loop-j
invariant-loop-j l =
    first_not (end_fits (archives_in l.self)) (length l.self.ends.now) 0 ≡ first_not (end_fits (archives_in l.self)) (length l.self.ends.now - l.j) l.j
