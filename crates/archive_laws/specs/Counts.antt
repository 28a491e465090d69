-- The first entry of an entry's member, and lists of entries below a number.
-- Assumes nothing.
use Prim.Native.Nat.{ℕ, ◌<◌, ◌≤◌}
use Rattle.std.specs.Prelude.{◌≡◌}
use Rattle.std.proofs.Math.Bool.{true}
use mathlib.Core.List.{List, [], ◌∷◌}
use Rattle.archive_laws.specs.Members.{Same, is_first}

module _ (keys : ℕ → ℕ) where
  -- the first entry of entry k's member
  pub record First (k h : ℕ) : Type 0 where
    pub low : h ≤ k
    pub same : Same keys h k
    pub first : is_first keys h ≡ true

  -- all below c
  pub data Below (c : ℕ) : List ℕ → Type 0 where
    no_one : Below c []
    one_more : {k : ℕ} {q : List ℕ} → k < c → Below c q → Below c (k ∷ q)
