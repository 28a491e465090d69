-- The smallest input of "a local in a dropped group is an error", where the gABI discards the symbol.
-- Assumes nothing.
use Rattle.std.specs.Prelude.{ℕ, List, [], ◌∷◌}

-- work cells: section 1 is removed
abbrev pub removed : List ℕ
removed = 0 ∷ 0 ∷ 0 ∷ 0 ∷ 0 ∷ 0 ∷ 0 ∷ 0 ∷ 2 ∷ 2 ∷ 0 ∷ 0 ∷ 0 ∷ 0 ∷ 0 ∷ 0 ∷ []

-- the table's one symbol: binding 0, type 0, visibility 0, in section 1, at 0
abbrev pub one_local : List ℕ
one_local = 0 ∷ 0 ∷ 0 ∷ 0 ∷ 1 ∷ 0 ∷ 0 ∷ 0 ∷ []
