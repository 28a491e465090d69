-- A loop that writes one value into the cells that a test picks: what stands in each cell after it.
-- Assumes nothing.
use Prim.Native.Nat.{ℕ, zero, suc, ◌+◌}
use Rattle.std.specs.Prelude.{Bool, cond, List, set}
use Rattle.std.proofs.Math.Bool.{true}

-- v into cell g i, if p picks i
unfoldable pub paint : (ℕ → Bool) → (ℕ → ℕ) → ℕ → ℕ → List ℕ → List ℕ
paint p g v i l = cond (p i) (set l (g i) v) l

-- how many p picks, of k from i on
unfoldable pub picked : (ℕ → Bool) → ℕ → ℕ → ℕ
picked p zero i = 0
picked p (suc k) i = cond (p i) 1 0 + picked p k (i + 1)

abbrev pub either : (ℕ → Bool) → (ℕ → Bool) → ℕ → Bool
either p q i = cond (p i) true (q i)
