use Rattle.std.proofs.Common.{◌≡◌, ◌-◌}
use Rattle.gc_sections.specs.Each.{each}
use Rattle.gc_sections.specs.Graph.{KeepsLoans, walk_in, relocated_in, relocated_all_in}
use Rattle.gc_sections.proofs.reach.Walker.relocations.Given as goal

abbrev pub invariant-loop-j : goal.invariant-loop-j
invariant-loop-j l = record {
  loans : KeepsLoans l.initial.self l.self;
  walk : relocated_all_in l.graph l.first l.count (walk_in l.initial.self) ≡ each (relocated_in l.graph) (l.j-end - l.j) l.j (walk_in l.self);
}
