use Rattle.std.proofs.Common.{◌≡◌}
use Rattle.archive_index.specs.Rows.{no_heads}
use Rattle.archive_index.proofs.clear_heads.Given as goal

abbrev pub invariant-loop-k : goal.invariant-loop-k
invariant-loop-k l = l.cells ≡ no_heads l.k l.initial.cells
