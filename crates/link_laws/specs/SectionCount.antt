-- That the section rows a link was made with are lent. (That no more are counted is part of symbol_laws' Within.)
-- Assumes nothing.
use Rattle.std.specs.Prelude.{◌≤◌, length}
use Rattle.link.specs.Bounds.{section_slots}
use Rattle.symbol_laws.specs.History.{State}

abbrev pub Sectioned : State → Type 0
Sectioned s = s.link.slots ≤ section_slots (length s.sections)
