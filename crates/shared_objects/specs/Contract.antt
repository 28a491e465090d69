-- The contract of `load_shared_object`: what a caller sees of it, its result and every cell that it lent to be written, against its definition.
-- Assumes nothing.
use Rattle.std.specs.Prelude.{◌≡◌}
use denote.Triple.Both.{Both}
use Rattle.link.specs.declared.Link.{Link}
use Rattle.shared_objects.specs.declared.Outcome.{Outcome}
use Rattle.shared_objects.specs.Load.{Input, load_of, Cells, link_before, outcome_after}

abbrev pub LoadMeets : Input → Both Cells Cells → Link → Outcome → Type 0
LoadMeets o c k r = outcome_after c r ≡ load_of o (link_before c k)
