-- That inputs and lists are left: none is written that was counted before, nor any past the counts afterwards.
-- Assumes nothing.
use Rattle.merge_laws.specs.Lists.{Listed}
use Rattle.merge_laws.specs.Calls.{Linked}

-- ---- every call

abbrev pub ListsLeft : Linked → Linked → Type 0
ListsLeft s t = Listed s.inputs s.lists s.table.link t.inputs t.lists t.table.link
