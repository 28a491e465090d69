-- The sections of a link before and after a collection. Words for statements: no function and no contract has them.
-- Assumes nothing.
use Rattle.std.specs.Prelude.{ℕ, List, eqb, count_by, filter, sum_by}
use Rattle.sections.specs.Rows.{state_at, size_at, built_state, dropped_state}
use Rattle.lot_report.specs.Count.{ids}

-- of n section rows, those in a state, in order
abbrev pub in_state : List ℕ → ℕ → ℕ → List ℕ
in_state sections n state = filter (λ y. eqb (state_at sections y) state) (ids n)

-- and their bytes
abbrev pub bytes_of : List ℕ → ℕ → ℕ → ℕ
bytes_of sections n state = sum_by (size_at sections) (in_state sections n state)
