use Rattle.std.proofs.Common.{◌≡◌, ◌-◌}
use Rattle.archive_index.specs.Index.{cut_of}
use Rattle.archive_index.proofs.opening.judge_names.Given as goal

abbrev pub invariant-loop-k : goal.invariant-loop-k
invariant-loop-k l = cut_of l.index l.start l.entries 0 ≡ cut_of l.index l.at (l.entries - l.k) l.k
