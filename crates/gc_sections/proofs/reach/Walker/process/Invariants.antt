use Rattle.std.proofs.Common.{◌≡◌, ◌-◌}
use Rattle.gc_sections.specs.Each.{each}
use Rattle.gc_sections.specs.Graph.{KeepsLoans, walk_in, visited_in}
use Rattle.gc_sections.proofs.reach.Walker.process.Given as goal

abbrev pub invariant-loop-place : goal.invariant-loop-place
invariant-loop-place l = record {
  loans : KeepsLoans l.initial.self l.self;
  walk : each (visited_in l.graph) l.graph.link.sections 0 (walk_in l.initial.self) ≡ each (visited_in l.graph) (l.graph.link.sections - l.place) l.place (walk_in l.self);
}
