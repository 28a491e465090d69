-- What a refused `Symbols::new` leaves: every lent cell, and a link without rows.
-- Assumes nothing.
use Rattle.std.specs.Prelude.{ℕ, Bool, List}
use Rattle.link.specs.Judge.{refused}
use Rattle.link.specs.Said.{refusing}
use Rattle.link.specs.Counts.{no_rows}
use Rattle.symbol_resolution.specs.Apply.{table_of}
use Rattle.symbols.specs.New.{NewLeft, new_left}

module _ (key : ℕ) (gabi : Bool) (bytes names symbols sections : List ℕ) where
  abbrev pub unopened : NewLeft
  unopened = new_left bytes (table_of names symbols sections no_rows) (refusing (refused 2 0))
