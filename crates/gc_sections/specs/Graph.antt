-- Roots and reach over what the code's structs hold: the definitions of Roots and Reach at a graph's rows and a walker's cells.
-- Assumes nothing.
use Rattle.std.specs.Prelude.{ℕ, ◌≡◌, Bool, cond, true, false, eqb, get_or, Option}
use Rattle.link.specs.declared.SymbolId.{SymbolId}
use Rattle.link.specs.declared.SectionId.{SectionId}
use Rattle.gc_sections.specs.declared.graph.Graph.{Graph}
use Rattle.gc_sections.specs.declared.reach.Walker.{Walker}
use Rattle.gc_sections.specs.Roots.{lead_of, is_root}
use Rattle.gc_sections.specs.Reach.{Walk, walk_of, visitor_of, save_of, reach_of, add_of, root_symbol, root_section, relocation, relocations, visit, roots_of, process_of}

-- ---- what a graph says

abbrev pub root_in : Graph → ℕ → Bool
root_in g i = is_root g.bytes.now g.names.now g.sections.now g.link.sections i

abbrev pub lead_in : Graph → SymbolId → Option SectionId
lead_in g id = lead_of g.symbols.now g.link.symbols id

-- a symbol past the marks has none
abbrev pub marked_in : Graph → ℕ → Bool
marked_in g i = cond (eqb (get_or g.marks.now i 0) 0) false true

-- ---- what a walker holds

abbrev pub walk_in : Walker → Walk
walk_in w = walk_of w.work.now (visitor_of w.queued w.unbuilt)

-- it writes into the same cells
abbrev pub KeepsLoans : Walker → Walker → Type 0
KeepsLoans v w = w.work.ghost_name ≡ v.work.ghost_name

-- ---- the steps of a walk

abbrev pub saved_in : Graph → SectionId → Walk → Walk
saved_in g id s = save_of g.link.sections id s

abbrev pub reached_in : Graph → SectionId → Walk → Walk
reached_in g id s = reach_of g.sections.now g.link.sections id s

abbrev pub added_in : Graph → SymbolId → Walk → Walk
added_in g id s = add_of g.link g.symbols.now g.sections.now id s

abbrev pub symbol_rooted_in : Graph → ℕ → Walk → Walk
symbol_rooted_in g = root_symbol g.link g.symbols.now g.sections.now g.marks.now

abbrev pub section_rooted_in : Graph → ℕ → Walk → Walk
section_rooted_in g = root_section g.link.sections g.bytes.now g.names.now g.sections.now

abbrev pub rooted_all_in : Graph → Option SymbolId → Walk → Walk
rooted_all_in g entry s = roots_of g.link g.bytes.now g.names.now g.symbols.now g.sections.now g.marks.now entry s

abbrev pub relocated_in : Graph → ℕ → Walk → Walk
relocated_in g = relocation g.link g.symbols.now g.sections.now g.lists.now

abbrev pub relocated_all_in : Graph → ℕ → ℕ → Walk → Walk
relocated_all_in g = relocations g.link g.symbols.now g.sections.now g.lists.now

abbrev pub visited_in : Graph → ℕ → Walk → Walk
visited_in g = visit g.link g.symbols.now g.sections.now g.lists.now

abbrev pub processed_in : Graph → Walk → Walk
processed_in g s = process_of g.link g.symbols.now g.sections.now g.lists.now s
