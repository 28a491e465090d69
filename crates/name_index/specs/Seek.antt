-- A name is looked for by halving the places at their lower middle till it is met, and the places that were read are counted. Byte order is that of
-- bytes without a sign, a name before any longer one that it begins: `slice_cmp nat_cmp`.
-- Assumes nothing.
use Rattle.std.specs.Prelude.{ℕ, zero, suc, ◌+◌, ◌-◌, ◌/◌, cond, List, ltb, get_or, length, Result, Ok, Err}
use Rattle.std.specs.Ordering.{nat_cmp, match_ordering}
use Rattle.std.specs.declared.cmp.Ordering.{Ordering}
use Rattle.std.specs.Cmp.Lexicographic.{slice_cmp}
use Rattle.name_index.specs.Named.{Rows, name_of_row}
use Rattle.name_index.specs.declared.Met.{Met}

abbrev pub met_at : Result ℕ ℕ → ℕ → Met
met_at place reads = record { place = place; reads = reads }

-- of the places from low up to high
abbrev pub middle : ℕ → ℕ → ℕ
middle low high = low + (high - low - 1) / 2

-- f says how the name at a place stands to the name that is looked for; n turns at most
unfoldable pub halve : (ℕ → Ordering) → ℕ → ℕ → ℕ → ℕ → Met
halve f zero low high reads = met_at (Err low) reads
halve f (suc n) low high reads =
    cond (ltb low high)
    (match_ordering (f (middle low high)) (halve f n (middle low high + 1) high (reads + 1)) (met_at (Ok (middle low high)) (reads + 1))
    (halve f n low (middle low high) (reads + 1)))
    (met_at (Err low) reads)

-- how the name at a place stands to x
unfoldable pub stands : Rows → List ℕ → List ℕ → ℕ → Ordering
stands r places x k = slice_cmp nat_cmp (name_of_row r (get_or places k 0)) x

unfoldable pub seek_of : Rows → List ℕ → List ℕ → Met
seek_of r places x = halve (stands r places x) (length places) 0 (length places) 0
