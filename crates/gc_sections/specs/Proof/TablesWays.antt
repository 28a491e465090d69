-- What a walk over a graph of the tables is.
-- Assumes nothing.
use Rattle.std.specs.Prelude.{ℕ, ◌≡◌, List, Option}
use Rattle.link.specs.declared.SymbolId.{SymbolId}
use Rattle.gc_sections.specs.declared.Tables.{Tables}
use Rattle.gc_sections.specs.declared.Read.{Read}
use Rattle.gc_sections.specs.declared.graph.Graph.{Graph}
use Rattle.gc_sections.specs.Reach.{walked}
use Rattle.gc_sections.specs.Tables.{Shows, walked_in}

pub walked-shown : (t : Tables) (r : Read) (g : Graph) (entry : Option SymbolId) (work : List ℕ) → Shows t r g
    → walked_in g entry work ≡ walked t.link r.bytes.now r.names.now t.symbols.now t.sections.now r.lists.now r.marks.now entry work
walked-shown t r g entry work s = simp (s.link, s.bytes, s.names, s.symbols, s.sections, s.lists, s.marks)
