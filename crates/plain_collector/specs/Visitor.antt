-- A visit over what the code's structs hold: the definitions of Visit at a graph's rows and a visitor's cells.
-- Assumes nothing.
use Rattle.std.specs.Prelude.{◌≡◌, Option, length}
use Rattle.link.specs.declared.SectionId.{SectionId}
use Rattle.gc_sections.specs.declared.graph.Graph.{Graph}
use Rattle.plain_collector.specs.declared.visit.Visitor.{Visitor}
use Rattle.link.specs.declared.SymbolId.{SymbolId}
use Rattle.gc_sections.specs.Each.{each}
use Rattle.plain_collector.specs.Visit.{Visited, visited_of, visited}
use Rattle.plain_collector.specs.Graph.{entry_lead_in, symbol_in, section_in}

-- it writes into the same cells, as many
pub record KeepsCells (old new : Visitor) : Type 0 where
  pub name : new.work.ghost_name ≡ old.work.ghost_name
  pub long : length new.work.now ≡ length old.work.now

abbrev pub seen_in : Visitor → Visited
seen_in v = visited_of v.work.now v.unbuilt

abbrev pub visited_in : Graph → Option SectionId → Visited → Visited
visited_in g k s = visited g.link g.symbols.now g.sections.now g.lists.now k s

abbrev pub rooted_in : Graph → Option SymbolId → Visited → Visited
rooted_in g entry s =
    visited_in g (entry_lead_in g entry) (each (section_in g) g.link.sections 0 (each (symbol_in g) g.link.symbols 0 s))
