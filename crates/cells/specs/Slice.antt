-- What is lent to a call, in its contract: at its entry and, where it is lent to be changed, at its exit.
-- Assumes nothing.
use Rattle.std.specs.Prelude.{ℕ, List}
use Rattle.std.specs.Borrow.{Bor, MutBor}
use denote.Triple.Both.{Both}

-- cells or bytes behind a `&`
abbrev pub Slice : Type 0
Slice = Both (Bor (List ℕ)) (Bor (List ℕ))

-- behind a `&mut`
abbrev pub SliceMut : Type 0
SliceMut = Both (MutBor (List ℕ)) (MutBor (List ℕ))
