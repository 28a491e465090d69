-- Rows of a walk that are sound: they say what the entries' keys and names are, and their marks which members are queued.
-- Assumes nothing.
use Prim.Native.Nat.{ℕ, ◌*◌, ◌<◌, ◌≤◌}
use Rattle.std.specs.Prelude.{◌≡◌, not, eqb}
use Rattle.std.proofs.Math.Bool.{false}
use mathlib.Core.List.{List}
use Rattle.std.proofs.Math.ListN.{length}
use Rattle.archive_index.specs.Rows.{required_at, member_at, pass_at, stored_name}
use Rattle.archive_laws.specs.Members.{among, Once}
use Rattle.archive_laws.specs.Counts.{First, Below}
use Rattle.archive_laws.specs.ChainsWords.{Linked}
use Rattle.archive_laws.specs.Runs.{queue_list}

module _ (key : ℕ) (s : List ℕ) (keys : ℕ → ℕ) (named : ℕ → List ℕ) (c : ℕ) where
  -- the rows say what the index says
  pub record Rows (l : List ℕ) : Type 0 where
    pub room : c * 8 ≤ length l
    pub name : (k : ℕ) → k < c → stored_name s l k ≡ named k
    pub member : (k : ℕ) → k < c → First keys k (member_at l k)
    pub linked : Linked key s c l

  -- a representative has a pass just where its member is in the queue
  pub record Marks (l : List ℕ) (n : ℕ) : Type 0 where
    pub mark : (k : ℕ) → k < c → eqb (pass_at l (member_at l k)) 0 ≡ not (among keys k (queue_list l n))
    pub once : Once keys (queue_list l n)
    pub below : Below keys c (queue_list l n)
    -- no name is required of a member that isn't queued
    pub unmarked : (k : ℕ) → k < c → among keys k (queue_list l n) ≡ false → required_at l k ≡ 0

  pub record Sound (l : List ℕ) (n : ℕ) : Type 0 where
    pub rows : Rows l
    pub marks : Marks l n

  -- no representative has a later pass than p
  abbrev pub Low : ℕ → List ℕ → Type 0
  Low p l = (j : ℕ) → j < c → pass_at l (member_at l j) ≤ p
