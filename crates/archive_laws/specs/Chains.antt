-- The chains of required names, for any key: a pass chains an entry when it marks it, once for each member and name, and a name is found in its chain
-- just if some marked entry of the member bears it.
-- Assumes nothing.
use Prim.Native.Nat.{ℕ, zero, suc, ◌-◌}
use Rattle.std.specs.Prelude.{Bool, not, List}
use Rattle.std.proofs.Math.Bool.{true, false, cond}
use Rattle.std.proofs.Math.Dec.{eqb}
use Rattle.archive_index.specs.Rows.{required_at, member_at, next_at, stored_name}
use Rattle.archive_walk.specs.Names.{along, bears_of}

-- one of at most n entries from at on is of the same member and name as a later one
unfoldable pub repeats : List ℕ → List ℕ → ℕ → ℕ → Bool
repeats s l at zero = false
repeats s l at (suc n) =
    cond (eqb at 0) false
    (cond (along l (bears_of s l (member_at l (at - 1)) (stored_name s l (at - 1))) (next_at l (at - 1)) n) true (repeats s l (next_at l (at - 1)) n))

-- entry j is marked as required
abbrev pub asked : List ℕ → ℕ → Bool
asked l j = eqb (required_at l j) 1

abbrev pub unasked : List ℕ → ℕ → Bool
unasked l j = not (asked l j)
