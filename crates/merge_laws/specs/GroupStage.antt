-- The number of the refusal that the group stage has met, or 0.
-- Assumes nothing.
use Rattle.std.specs.Prelude.{ℕ}
use Rattle.section_groups.specs.Group as Group

abbrev pub number_of : Group.Step → ℕ
number_of s = s.stage.number
