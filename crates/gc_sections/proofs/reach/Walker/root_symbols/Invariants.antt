use Rattle.std.proofs.Common.{◌≡◌, ◌-◌}
use Rattle.gc_sections.specs.Each.{each}
use Rattle.gc_sections.specs.Graph.{KeepsLoans, walk_in, symbol_rooted_in}
use Rattle.gc_sections.proofs.reach.Walker.root_symbols.Given as goal

abbrev pub invariant-loop-i : goal.invariant-loop-i
invariant-loop-i l = record {
  loans : KeepsLoans l.initial.self l.self;
  walk : each (symbol_rooted_in l.graph) l.graph.link.symbols 0 (walk_in l.initial.self) ≡ each (symbol_rooted_in l.graph) (l.graph.link.symbols - l.i) l.i (walk_in l.self);
}
