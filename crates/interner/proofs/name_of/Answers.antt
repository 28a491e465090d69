use Rattle.std.proofs.Common.{◌∙◌, refl, rules}
use Rattle.interner.proofs.name_of.Goals as goal

pub returns : goal.returns
returns c = record { result_value = c.part_of.ensures.part ∙ rw c.row_load-row.ensures refl; place = search rules }
