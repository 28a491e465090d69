-- The signature of a group that is added by itself, and the sections that it lists.
-- Assumes nothing.
use Rattle.std.specs.Prelude.{ℕ, List}
use Rattle.section_groups.specs.Group as Group
use Rattle.section_groups.specs.Group.{listed_in, signature_of}

-- its signature, and the sections that it lists
abbrev pub signature : Group.Object → ℕ → List ℕ
signature o n = (signature_of o.headers o.entries o.image o.table n).name

abbrev pub listed : Group.Object → ℕ → List ℕ
listed o n = listed_in o n
