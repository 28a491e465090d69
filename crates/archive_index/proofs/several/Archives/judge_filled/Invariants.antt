use Rattle.std.proofs.Common.{◌≡◌, ◌-◌, length}
use Rattle.archive_index.specs.Archives.{archives_in}
use Rattle.archive_index.specs.Open.{is_filled, first_not}
use Rattle.archive_index.proofs.several.Archives.judge_filled.Given as goal

abbrev pub invariant-loop-j : goal.invariant-loop-j
invariant-loop-j l =
    first_not (is_filled (archives_in l.self)) (length l.self.ends.now) 0 ≡ first_not (is_filled (archives_in l.self)) (length l.self.ends.now - l.j) l.j
