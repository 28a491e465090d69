-- A loop's start, a turn of it, and its end.
-- Assumes nothing.
use Prim.Native.Nat.{ℕ, suc, ◌+◌, ◌-◌, ◌<◌, ◌≤◌}
use native.Mathlib.Omega.{arith}
use Rattle.std.specs.Prelude.{◌≡◌}
use Rattle.std.proofs.Math.Path.{sym}
use Rattle.std.proofs.Common.{ap, ◌∙◌}
use Rattle.gc_sections.specs.Each.{each}

module _ {S : Type 0} (f : ℕ → S → S) (n : ℕ) where
  pub each_start : (s : S) → each f n 0 s ≡ each f (n - 0) 0 s
  each_start s = let e : n ≡ n - 0 = omega arith in ap (λ (k : ℕ). each f k 0 s) e

  module _ (i : ℕ) (s : S) (w : S) where
    pub each_on : (t : S) → i < n → t ≡ f i s → w ≡ each f (n - i) i s → w ≡ each f (n - (i + 1)) (i + 1) t
    unfolding each
    each_on t h e q = let k : n - i ≡ suc (n - (i + 1)) = omega arith in q ∙ rw (k, e)

    pub each-end : n ≤ i → w ≡ each f (n - i) i s → s ≡ w
    unfolding each
    each-end h q = let k : n - i ≡ 0 = omega arith in sym (q ∙ rw k)
