-- Direct calls as parts: an accepted add is the add of its row, an accepted intern issues the name, and a refused call is nothing.
-- Assumes nothing.
use Rattle.std.specs.Prelude.{cond, List, [], ◌∷◌, ◌++◌, eqb}
use Rattle.symbol_laws.specs.History.{State, direct, Part, issue, put, Call, add, intern, remove, upcoming, call_next, call_number}

abbrev if_accepted : Call → State → List Part → List Part
if_accepted k s ps = cond (eqb (call_number k s) 0) ps []

abbrev pub call_parts : Call → State → List Part
call_parts (add conversion u) s = if_accepted (add conversion u) s (put (upcoming s conversion u) direct ∷ [])
call_parts (intern x) s = if_accepted (intern x) s (issue x ∷ [])
call_parts (remove id) s = []

abbrev pub history_parts : List Call → State → List Part
history_parts [] s = []
history_parts (k ∷ ks) s = call_parts k s ++ history_parts ks (call_next k s)
