-- The order of names by their bytes; a name stands before those that it begins.
-- Assumes nothing.
use Rattle.std.specs.Prelude.{ℕ, Bool, true, false, cond, List, [], ◌∷◌, ◌==◌, nat_lt}

unfoldable pub before_of : List ℕ → List ℕ → Bool
before_of [] [] = false
before_of [] (y ∷ ys) = true
before_of (x ∷ xs) [] = false
before_of (x ∷ xs) (y ∷ ys) = cond (x == y) (before_of xs ys) (nat_lt x y)
