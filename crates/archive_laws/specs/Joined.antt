-- Indexes one behind the other, with their ends: what a caller puts together.
-- Assumes nothing.
use Rattle.std.specs.Prelude.{ℕ, ◌+◌, List, [], ◌∷◌, ◌++◌, length}
use Rattle.archive_index.specs.Archives.{Archives, archives_of}

abbrev pub joined : List (List ℕ) → List ℕ
joined [] = []
joined (x ∷ xs) = x ++ joined xs

-- the first begins at place b
abbrev pub ends_from : ℕ → List (List ℕ) → List ℕ
ends_from b [] = []
ends_from b (x ∷ xs) = (b + length x) ∷ ends_from (b + length x) xs

abbrev pub archives_joined : List (List ℕ) → Archives
archives_joined xs = archives_of (joined xs) (ends_from 0 xs)
