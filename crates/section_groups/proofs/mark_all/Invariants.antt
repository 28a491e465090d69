use Rattle.std.proofs.Common.{◌≡◌, ◌-◌, length}
use Rattle.section_groups.specs.Group.{mark_from}
use Rattle.section_groups.proofs.mark_all.Given as goal

abbrev pub invariant-loop-i : goal.invariant-loop-i
invariant-loop-i l = mark_from l.repeated l.listed 0 (length l.listed) l.initial.work ≡ mark_from l.repeated l.listed l.i (length l.listed - l.i) l.work
