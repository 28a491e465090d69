-- What is proved of the index: the places read, what is met, and that an inserted name leaves it in order.
-- Assumes nothing.
use Rattle.std.specs.Prelude.{ℕ, ◌<◌, ◌≤◌, ◌≡◌, List, length, Ok, Err}
use Rattle.std.specs.List.{insert}
use Rattle.std.proofs.Common.{arith}
use Rattle.name_index.specs.Named.{Rows, name_of_row}
use Rattle.name_index.specs.Seek.{stands, seek_of}
use Rattle.name_index.specs.Proof.Sought as Sought
use Rattle.name_index_laws.specs.InOrder.{name_in, InOrder}
use Rattle.name_index_laws.proofs.PlacesRead.{reads-most}

module _ (r : Rows) (places : List ℕ) where
  -- at most 16 places are read, whatever the cells hold
  pub reads-16 : length places ≤ 65535 → (x : List ℕ) → (seek_of r places x).reads ≤ 16
  unfolding seek_of
  reads-16 h x = reads-most (stands r places x) (length places) 16 0 (length places) 0 (omega arith)

  module _ (sorted : InOrder r places) (x : List ℕ) where
    -- what is met is x
    pub met-is : (k : ℕ) → (seek_of r places x).place ≡ Ok k → (k < length places) × (name_in r places k ≡ x)
    met-is = Sought.met-is r places sorted x

    pub missed-in : (k : ℕ) → (seek_of r places x).place ≡ Err k → k ≤ length places
    missed-in = Sought.missed-in r places sorted x

    -- where x isn't met, it stands at no place
    pub missed-none : (k : ℕ) → (seek_of r places x).place ≡ Err k → (i : ℕ) → i < length places → name_in r places i ≡ x → ⊥
    missed-none = Sought.missed-none r places sorted x

    -- a name that isn't met, inserted where the search ends, leaves the index in order
    pub stays-in-order : (id k : ℕ) → name_of_row r id ≡ x → (seek_of r places x).place ≡ Err k → InOrder r (insert places k id)
    stays-in-order = Sought.stays-in-order r places sorted x
