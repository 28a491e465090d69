-- A link whose other counts are within what a call on names takes for granted.
-- Assumes nothing.
use Rattle.std.specs.Prelude.{◌≤◌}
use Rattle.interner.specs.Names.{Store}
use Rattle.link.specs.Bounds.{not_lent, section_rows}

-- the counts that a call on names isn't lent anything for, and the rows that the names were lent
pub record Within (s : Store) : Type 0 where
  pub sections-in : s.link.sections ≤ section_rows s.link.slots
  pub symbols-in : s.link.symbols ≤ 65535
  pub inputs_in : s.link.inputs ≤ 4095
  pub lists-in : s.link.lists ≤ not_lent
