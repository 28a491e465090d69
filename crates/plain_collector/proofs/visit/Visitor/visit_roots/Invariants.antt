use Rattle.std.proofs.Common.{◌-◌, ◌≡◌}
use Rattle.gc_sections.specs.Each.{each}
use Rattle.plain_collector.specs.Graph.{symbol_in, section_in}
use Rattle.plain_collector.specs.Visitor.{KeepsCells, seen_in}
use Rattle.plain_collector.proofs.visit.Visitor.visit_roots.Given as goal

abbrev pub invariant-loop-symbol : goal.invariant-loop-symbol
invariant-loop-symbol l = record {
  keeps : KeepsCells l.initial.self l.self;
  seen : each (symbol_in l.graph) l.graph.link.symbols 0 (seen_in l.initial.self) ≡ each (symbol_in l.graph) (l.graph.link.symbols - l.symbol) l.symbol (seen_in l.self);
}

abbrev pub invariant-loop-section : goal.invariant-loop-section
invariant-loop-section l = record {
  keeps : KeepsCells l.initial.self l.self;
  seen : each (section_in l.graph) l.graph.link.sections 0 (seen_in l.initial.self) ≡ each (section_in l.graph) (l.graph.link.sections - l.section) l.section (seen_in l.self);
}
