-- "The first such row": the first of several that isn't right, and of an object's rows the first section, else the first symbol, with a field out of range. The place of 1.
-- Assumes nothing.
use Prim.Native.Nat.{ℕ, ◌<◌}
use Rattle.std.specs.Prelude.{◌≡◌, Bool, true, false, List}
use Rattle.elf_object.specs.Rows.{rows_in}
use Rattle.elf_object.specs.Judge.{header_ok, entry_ok}

-- of n rows, p is the first that isn't right
pub record First (ok : ℕ → Bool) (n p : ℕ) : Type 0 where
  pub below : p < n
  pub bad : ok p ≡ false
  pub before : (j : ℕ) → j < p → ok j ≡ true

module _ (headers entries : List ℕ) (contents file : ℕ) where
  pub data BadRow (p : ℕ) : Type 0 where
    section : First (header_ok headers (rows_in entries) contents file) (rows_in headers) p → BadRow p
    symbol : ((n : ℕ) → n < rows_in headers → header_ok headers (rows_in entries) contents file n ≡ true) → First (entry_ok entries) (rows_in entries) p → BadRow p
