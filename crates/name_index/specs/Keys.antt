-- The order in which new rows are put: by eight bytes of each name behind what all of them begin with, then by the names. Only how long a call takes hangs
-- on it.
-- Assumes nothing.
use Rattle.std.specs.Prelude.{ℕ, ◌<◌, ◌≡◌, List, [], ◌∷◌, get_or, length, take}
use Rattle.std.specs.Ordering.{nat_cmp, match_ordering}
use Rattle.std.specs.declared.cmp.Ordering.{Ordering}
use Rattle.std.specs.declared.cmp.Ordering.TheVariants.{Less, Greater}
use Rattle.std.specs.Cmp.Lexicographic.{slice_cmp}
use Rattle.name_index.specs.declared.arrivals.Keyed.{Keyed}
use Rattle.name_index.specs.Named.{Rows, name_of_row}

-- of a row's name, by its place among the ids
abbrev pub named : Rows → List ℕ → ℕ → List ℕ
named r ids k = name_of_row r (get_or ids k 0)

-- the names begin with the same n bytes
abbrev pub AllBegin : Rows → List ℕ → ℕ → Type 0
AllBegin r ids n = (k : ℕ) → k < length ids → take n (named r ids k) ≡ take n (named r ids 0)

-- 0 for a byte that isn't there
abbrev pub eight : List ℕ → List ℕ
eight x =
    get_or x 0 0 ∷ get_or x 1 0 ∷ get_or x 2 0 ∷ get_or x 3 0 ∷ get_or x 4 0 ∷ get_or x 5 0 ∷ get_or x 6 0 ∷ get_or x 7 0 ∷ []

abbrev pub by_keys : Rows → Keyed → Keyed → Ordering
by_keys r a b = match_ordering (nat_cmp a.key b.key) Less (slice_cmp nat_cmp (name_of_row r a.id) (name_of_row r b.id)) Greater
