use Rattle.std.proofs.Common.{◌≡◌, ◌-◌}
use Rattle.gc_sections.specs.Each.{each}
use Rattle.gc_sections.specs.Graph.{KeepsLoans, walk_in, section_rooted_in}
use Rattle.gc_sections.proofs.reach.Walker.root_sections.Given as goal

abbrev pub invariant-loop-i : goal.invariant-loop-i
invariant-loop-i l = record {
  loans : KeepsLoans l.initial.self l.self;
  walk : each (section_rooted_in l.graph) l.graph.link.sections 0 (walk_in l.initial.self) ≡ each (section_rooted_in l.graph) (l.graph.link.sections - l.i) l.i (walk_in l.self);
}
