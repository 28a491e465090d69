-- How many adds a list has.
-- Assumes nothing.
use Rattle.std.specs.Prelude.{ℕ, zero, suc, ◌+◌, ◌≡◌, refl, List, length}
use Rattle.std.proofs.Common.{ap}
use Rattle.elf_object.specs.Rows.{rows_in}
use Rattle.add_list.specs.AddList.{items_from, items_of}

from-length : (adds : List ℕ) (n k : ℕ) → length (items_from adds n k) ≡ n
unfolding items_from
from-length adds zero k = refl
from-length adds (suc n) k = ap suc (from-length adds n (k + 1))

pub items-length : (adds : List ℕ) → length (items_of adds) ≡ rows_in adds
unfolding items_of
items-length adds = from-length adds (rows_in adds) 0
