-- The loop of every stage: element by element up to the first refusal.
-- Assumes nothing.
use Rattle.std.specs.Prelude.{ℕ, zero, suc, ◌+◌, cond, List, [], ◌++◌, eqb}
use Rattle.merge_laws.specs.Steps.{Step}

module _ {S : Type 0} (number : S → ℕ) (next : S → ℕ → S) where
  module _ (steps : S → ℕ → List Step) where
    -- the steps of each element in turn, those of the refused one too
    abbrev pub loop_steps : ℕ → ℕ → S → List Step
    loop_steps zero i s = []
    loop_steps (suc n) i s = cond (eqb (number (next s i)) 0) (steps s i ++ loop_steps n (i + 1) (next s i)) (steps s i)
