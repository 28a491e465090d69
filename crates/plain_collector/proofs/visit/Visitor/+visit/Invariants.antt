use Rattle.std.proofs.Common.{◌-◌, ◌≡◌, ◌≤◌}
use Rattle.gc_sections.specs.Each.{each}
use Rattle.plain_collector.specs.Visit.{unvisited}
use Rattle.plain_collector.specs.Visitor.{KeepsCells, seen_in}
use Rattle.plain_collector.specs.Proof.Depth.{relocation_to}
use Rattle.plain_collector.proofs.visit.Visitor.+visit.Given as goal

-- how many sections are unvisited
abbrev pub decreases-visit : goal.decreases-visit
decreases-visit l = unvisited l.graph.now.link.sections l.self.now.work.now

abbrev pub invariant-loop-j : goal.invariant-loop-j
invariant-loop-j l = record {
  keeps : KeepsCells l.initial.self l.self;
  less : unvisited l.graph.link.sections l.self.work.now ≤ unvisited l.graph.link.sections l.initial.self.work.now;
  seen : each (relocation_to l.graph.link l.graph.symbols.now l.graph.sections.now l.graph.lists.now (unvisited l.graph.link.sections l.initial.self.work.now)) (l.j-end - l.first) l.first (seen_in l.initial.self)
      ≡ each (relocation_to l.graph.link l.graph.symbols.now l.graph.sections.now l.graph.lists.now (unvisited l.graph.link.sections l.initial.self.work.now)) (l.j-end - l.j) l.j (seen_in l.self);
}
