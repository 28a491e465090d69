-- What holds of every walk of the definition: the passes are at most one more than the members, no member is offered twice, a pass queues exactly the
-- members not queued yet that the index ties to an undefined name, each by its first tied entry.
-- Assumes nothing.
use Prim.Native.Nat.{ℕ, ◌<◌}
use Rattle.std.specs.Prelude.{◌≡◌, Bool}
use Rattle.std.proofs.Math.Bool.{true, false}
use mathlib.Core.List.{List, ◌∷◌}
use Rattle.archive_laws.specs.Members.{Same, among}

module _ (keys : ℕ → ℕ) (tie : ℕ → Bool) where
  -- entry j ties a member that was not queued before, and no entry before it does
  pub record Added (q : List ℕ) (j : ℕ) : Type 0 where
    pub tied : tie j ≡ true
    pub free : among keys j q ≡ false
    pub first : (i : ℕ) → i < j → tie i ≡ true → Same keys i j → ⊥

  -- a queue after a pass over k entries: such entries in index order, behind those of q (queues stand last first)
  pub data Newly (q : List ℕ) : ℕ → List ℕ → Type 0 where
    base : {k : ℕ} → Newly q k q
    on : {j k : ℕ} {r : List ℕ} → Newly q j r → j < k → Added q j → Newly q k (j ∷ r)
