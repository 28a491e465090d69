-- What a history of calls leaves.
-- Assumes nothing.
use mathlib.Core.List.{List, [], ◌∷◌}

module _ {S X : Type 0} (next : S → X → S) where
  -- what the calls leave, one after the other
  unfoldable pub history : List X → S → S
  history [] s = s
  history (x ∷ xs) s = history xs (next s x)
