-- What holds of the chains of required names in a walk's cells: who is in them, and that a search along one finds whoever bears a name.
-- Assumes nothing.
use Prim.Native.Nat.{ℕ, ◌<◌, ◌≤◌}
use Rattle.std.specs.Prelude.{◌≡◌, List}
use Rattle.std.proofs.Math.Bool.{false}
use Rattle.archive_index.specs.Rows.{head_at}
use Rattle.archive_walk.specs.Names.{name_chain, along, bears_of}
use Rattle.archive_laws.specs.Members.{cnt, any_below}
use Rattle.archive_laws.specs.Chains.{asked, repeats, unasked}

module _ (key : ℕ) (s : List ℕ) (c : ℕ) where
  pub record Linked (l : List ℕ) : Type 0 where
    -- whoever is in a chain is marked
    pub only : (b : ℕ) → b < c → (n : ℕ) → along l (unasked l) (head_at l b) n ≡ false
    -- and no two of them are of one member and name
    pub apart : (b : ℕ) → b < c → (n : ℕ) → repeats s l (head_at l b) n ≡ false
    -- as many steps as entries are marked find who bears a name
    pub all : 0 < c → (r : ℕ) (x : List ℕ) (n : ℕ) → cnt (asked l) c ≤ n → along l (bears_of s l r x) (head_at l (name_chain key c r x)) n ≡ any_below (bears_of s l r x) c
