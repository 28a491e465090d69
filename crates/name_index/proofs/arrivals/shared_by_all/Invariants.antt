use Rattle.std.proofs.Common.{◌≡◌, ◌<◌, ◌≤◌, ℕ, length, take}
use Rattle.name_index.specs.Named.{rows_in}
use Rattle.name_index.specs.Keys.{named}
use Rattle.name_index.proofs.arrivals.shared_by_all.Given as goal

abbrev pub invariant-loop-k : goal.invariant-loop-k
invariant-loop-k l =
    (l.shared ≤ length l.first) × ((j : ℕ) → j < l.k → take l.shared (named (rows_in l.rows) l.ids j) ≡ take l.shared l.first)
