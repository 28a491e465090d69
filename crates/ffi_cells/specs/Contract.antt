-- What a caller in another language sees of an exported call that writes its header alone: the number returned, and the header.
-- Assumes nothing.
use Rattle.std.specs.Prelude.{ℕ, List}
use Rattle.cells.specs.Slice.{SliceMut}

pub record ToldExit : Type 0 where
  pub number : ℕ
  pub header : List ℕ

abbrev pub told_exit : ℕ → SliceMut → ToldExit
told_exit n header = record { number = n; header = header.exit.now }
