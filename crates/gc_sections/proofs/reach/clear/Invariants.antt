use Rattle.std.proofs.Common.{◌≡◌, ◌-◌}
use Rattle.gc_sections.specs.Each.{each}
use Rattle.gc_sections.specs.Reach.{clear_cell}
use Rattle.gc_sections.proofs.reach.clear.Given as goal

abbrev pub invariant-loop-i : goal.invariant-loop-i
invariant-loop-i l = each clear_cell l.n 0 l.initial.work ≡ each clear_cell (l.n - l.i) l.i l.work
