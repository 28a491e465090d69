-- The names that a requirement asks for.
-- Assumes nothing.
use Rattle.std.specs.Prelude.{Bool, List, ℕ}
use Rattle.archive_walk.specs.Names.{required_of}
use Rattle.object_requirement.specs.declared.ObjectRequirement.{ObjectRequirement}

abbrev pub required_by : ObjectRequirement → List ℕ → Bool
required_by r = required_of r.entries.index.now r.entries.cells.now r.walk r.entry
