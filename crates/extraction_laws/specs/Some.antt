-- Tests, and whether one holds of some symbol of a list.
-- Assumes nothing.
use Rattle.std.specs.Prelude.{◌≡◌, Bool, true, false, cond, List, [], ◌∷◌}
use Rattle.gabi.specs.Archive.{Named}

-- ---- lists of symbols

pub data In (e : Named) : List Named → Type 0 where
  here : {d : Named} {m : List Named} → d ≡ e → In e (d ∷ m)
  there : {d : Named} {m : List Named} → In e m → In e (d ∷ m)

unfoldable pub some : (Named → Bool) → List Named → Bool
some p [] = false
some p (e ∷ m) = cond (p e) true (some p m)
