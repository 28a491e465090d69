-- The contract of `merge_elf`: what a caller sees of it, its result and every cell that it lent to be written, against its definition.
-- Assumes nothing.
use Rattle.std.specs.Prelude.{◌≡◌}
use denote.Triple.Both.{Both}
use Rattle.link.specs.declared.Link.{Link}
use Rattle.merge_stages.specs.Stages.{Object, Cells, link_before}
use Rattle.merge_elf.specs.declared.Outcome.{Outcome}
use Rattle.merge_elf.specs.Merge.{merge_of, outcome_after}

abbrev pub MergeMeets : Object → Both Cells Cells → Link → Outcome → Type 0
MergeMeets o c k r = outcome_after c r ≡ merge_of o (link_before c k)
