use Rattle.object_requirement.specs.Proof.Ways.{section-looked}
use Rattle.object_requirement.proofs.ObjectRequirement.is_in_section.Goals as goal

pub returns-then-is_table : goal.returns-then-is_table
returns-then-is_table c =
    section-looked _ _ _ _ _ _ _ _ (c.if-is_table.ensures {u = tt}) c.entries_of.ensures (rw c.row_get-names.ensures at c.is_in_table.ensures)
