-- Lists of name ids.
-- Assumes nothing.
use Rattle.std.specs.Prelude.{ℕ, Bool, true, false, cond, List, [], ◌∷◌, eqb}

unfoldable pub has_id : List ℕ → ℕ → Bool
has_id [] id = false
has_id (a ∷ l) id = cond (eqb a id) true (has_id l id)
