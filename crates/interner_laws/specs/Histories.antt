-- What the ids of a state stand for, and that they go on standing for it in a later one; over any state.
-- Assumes nothing.
use Rattle.std.specs.Prelude.{ℕ, ◌<◌, ◌≤◌, ◌≡◌}

-- ids of what a state has issued
module _ {S X : Type 0} (count : S → ℕ) (name : S → ℕ → X) where
  pub record IssuedIn (s : S) (i : ℕ) (x : X) : Type 0 where
    pub low : i < count s
    pub right : name s i ≡ x

  -- ids go on standing for what they stood for
  pub record StaysIn (s t : S) : Type 0 where
    pub grows : count s ≤ count t
    pub olds : (i : ℕ) → i < count s → name t i ≡ name s i
