use Rattle.std.proofs.Common.{◌≡◌, ◌-◌}
use Rattle.archive_index.specs.Rows.{descend}
use Rattle.archive_index.proofs.opening.search.Given as goal

abbrev pub invariant-loop-step : goal.invariant-loop-step
invariant-loop-step l = descend l.cells l.key l.k 0 l.key l.k ≡ descend l.cells l.key l.k l.at l.rest (l.k - l._step)
