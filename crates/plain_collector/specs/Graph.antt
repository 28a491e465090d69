-- Roots and the call over what the code's structs hold: the definitions of Visit and Run at a graph's rows and the lent tables.
-- Assumes nothing.
use Rattle.std.specs.Prelude.{ℕ, Bool, true, false, cond, eqb, List, Option, Result, Ok, Err}
use Rattle.link.specs.declared.SymbolId.{SymbolId}
use Rattle.link.specs.declared.SectionId.{SectionId}
use Rattle.link.specs.declared.cause.Refusal.{Refusal}
use Rattle.gc_sections.specs.declared.graph.Graph.{Graph}
use Rattle.gc_sections.specs.declared.Tables.{Tables}
use Rattle.gc_sections.specs.declared.Read.{Read}
use Rattle.gc_sections.specs.Tables as First
use Rattle.gc_sections.specs.Tables.{read_in}
use Rattle.gc_sections.specs.Run.{Left}
use Rattle.plain_collector.specs.Visit.{Visited, marked_lead, root_lead, entry_lead, root_symbol, root_section, reached_of}
use Rattle.plain_collector.specs.Run.{count_built, judge_plain, plain_of}

abbrev pub marked_lead_in : Graph → ℕ → Option SectionId
marked_lead_in g i = marked_lead g.symbols.now g.link.symbols g.marks.now i

abbrev pub root_lead_in : Graph → ℕ → Option SectionId
root_lead_in g i = root_lead g.bytes.now g.names.now g.sections.now g.link.sections i

abbrev pub entry_lead_in : Graph → Option SymbolId → Option SectionId
entry_lead_in g entry = entry_lead g.symbols.now g.link.symbols entry

abbrev pub symbol_in : Graph → ℕ → Visited → Visited
symbol_in g = root_symbol g.link g.symbols.now g.sections.now g.lists.now g.marks.now

abbrev pub section_in : Graph → ℕ → Visited → Visited
section_in g = root_section g.link g.bytes.now g.names.now g.symbols.now g.sections.now g.lists.now

abbrev pub reached_in : Graph → Option SymbolId → List ℕ → Visited
reached_in g entry work = reached_of g.link g.bytes.now g.names.now g.symbols.now g.sections.now g.lists.now g.marks.now entry work

-- ---- the call

-- 22 and 1 come before 30
abbrev pub first_in : Result Unit Refusal → Bool
first_in (Ok u) = false
first_in (Err r) = cond (eqb r.number 22) true (eqb r.number 1)

abbrev pub judged_in : Tables → Read → ℕ → Refusal
judged_in t r work = judge_plain (First.judged_in t r work) (count_built t.sections.now t.link.sections)

abbrev pub plain_in : Tables → Read → Option SymbolId → List ℕ → Left
plain_in t r entry work = plain_of t.link (read_in r) t.symbols.now t.sections.now entry work
