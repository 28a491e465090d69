-- Counts of a link that direct calls take for granted, that of symbols apart: with these, and lent rows for all symbols, a lookup is never refused with 1.
-- Assumes nothing.
use Rattle.std.specs.Prelude.{ℕ, ◌≤◌, List, length}
use Rattle.link.specs.declared.Link.{Link}
use Rattle.link.specs.Bounds.{not_lent, name_rows, section_rows}

-- the counts that these calls aren't lent anything for, and the rows that the names were lent
pub record Within (l : Link) (names : List ℕ) : Type 0 where
  pub bytes-in : l.bytes ≤ 1048576
  pub sections-in : l.sections ≤ section_rows l.slots
  pub inputs_in : l.inputs ≤ 4095
  pub lists-in : l.lists ≤ not_lent
  pub names_in : l.names ≤ l.chains
  pub chains-lent : l.chains ≤ name_rows (length names)
