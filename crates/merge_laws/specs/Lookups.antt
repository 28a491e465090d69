-- A link whose counts are within their bounds, but for the count of the lists.
-- Assumes nothing.
use Rattle.std.specs.Prelude.{ℕ, ◌≤◌, List, length}
use Rattle.link.specs.declared.Link.{Link}
use Rattle.link.specs.Bounds.{name_rows}
use Rattle.symbol_laws.specs.History.{State}
use Rattle.merge_laws.specs.Steps.{Bounded}

-- all but the count of the lists
pub record Counted (l : Link) (names : List ℕ) : Type 0 where
  pub bytes-in : l.bytes ≤ 1048576
  pub bounded : Bounded l
  pub names_in : l.names ≤ l.chains
  pub chains-lent : l.chains ≤ name_rows (length names)

abbrev pub CountedIn : State → Type 0
CountedIn s = Counted s.link s.names
