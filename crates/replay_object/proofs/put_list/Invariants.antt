use Rattle.std.proofs.Common.{◌≡◌, ◌-◌, length}
use Rattle.replay_object.specs.Told.{list_from}
use Rattle.replay_object.proofs.put_list.Given as goal

abbrev pub invariant-loop-j : goal.invariant-loop-j
invariant-loop-j l = (list_from l.count l.initial.cells l.at l.line 0 ≡ list_from (l.count - l.j) l.cells l.at l.line l.j) × (length l.cells ≡ length l.initial.cells)
