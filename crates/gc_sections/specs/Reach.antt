-- What relocations reach from the roots: a queue that each section enters once. Of n sections, work cell i tells whether section i was reached,
-- and cells n and up hold the queue. "Of sections reached but not built, the lowest" is kept apart: its id may be any number.
-- Assumes nothing.
use Rattle.std.specs.Prelude.{ℕ, ◌+◌, ◌-◌, cond, List, eqb, ltb, leb, get_or, set, Option, None, Some}
use Rattle.link.specs.declared.Link.{Link}
use Rattle.link.specs.declared.SymbolId.{SymbolId}
use Rattle.link.specs.declared.SectionId.{SectionId}
use Rattle.sections.specs.Rows.{first_at, count_at, is_built}
use Rattle.gc_sections.specs.Each.{each}
use Rattle.gc_sections.specs.Roots.{symbol_id, lead_of, is_root}

-- how many sections the queue holds: each that was reached, once; and the lowest section that is reached but not built
pub record Visitor : Type 0 where
  pub queued : ℕ
  pub unbuilt : Option SectionId

-- the work cells, how many sections the queue holds, and the lowest that is reached but not built
pub record Walk : Type 0 where
  pub work : List ℕ
  pub visitor : Visitor

abbrev pub walk_of : List ℕ → Visitor → Walk
walk_of work v = record { work = work; visitor = v }

abbrev pub visitor_of : ℕ → Option SectionId → Visitor
visitor_of queued unbuilt = record { queued = queued; unbuilt = unbuilt }

-- a section that was not reached before enters the queue
abbrev pub queue : ℕ → SectionId → Walk → Walk
queue n id s =
    walk_of (set (set s.work id.0 1) (n + s.visitor.queued) id.0) (visitor_of (s.visitor.queued + 1) s.visitor.unbuilt)

-- once: a section that has a 1 is queued already. The queue has a cell for each section, so it is never full
unfoldable pub save_of : ℕ → SectionId → Walk → Walk
save_of n id s = cond (eqb (get_or s.work id.0 0) 0) (cond (ltb s.visitor.queued n) (queue n id s) s) s

abbrev pub lower_of : Option SectionId → SectionId → Option SectionId
lower_of None id = Some id
lower_of (Some k) id = cond (ltb id.0 k.0) (Some id) (Some k)

unfoldable pub reach_of : List ℕ → ℕ → SectionId → Walk → Walk
reach_of sections n id s =
    cond (is_built sections n id.0) (save_of n id s) (walk_of s.work (visitor_of s.visitor.queued (lower_of s.visitor.unbuilt id)))

abbrev pub reach_lead : List ℕ → ℕ → Option SectionId → Walk → Walk
reach_lead sections n None s = s
reach_lead sections n (Some id) s = reach_of sections n id s

-- the section that a symbol leads to
unfoldable pub add_of : Link → List ℕ → List ℕ → SymbolId → Walk → Walk
add_of l symbols sections id s = reach_lead sections l.sections (lead_of symbols l.symbols id) s

-- ---- roots

-- "symbols marked by the caller"
unfoldable pub root_symbol : Link → List ℕ → List ℕ → List ℕ → ℕ → Walk → Walk
root_symbol l symbols sections marks i s = cond (eqb (get_or marks i 0) 0) s (add_of l symbols sections (symbol_id i) s)

unfoldable pub root_section : ℕ → List ℕ → List ℕ → List ℕ → ℕ → Walk → Walk
root_section n bytes names sections i s = cond (is_root bytes names sections n i) (save_of n (record { 0 = i }) s) s

-- "the entry symbol"
abbrev pub entry_of : Link → List ℕ → List ℕ → Option SymbolId → Walk → Walk
entry_of l symbols sections None s = s
entry_of l symbols sections (Some id) s = add_of l symbols sections id s

-- ---- relocations

-- where the list of a section's relocations ends: never past the lists in use
unfoldable pub end_of : ℕ → ℕ → ℕ → ℕ
end_of lists first count = cond (leb lists first) first (cond (leb (lists - first) count) lists (first + count))

unfoldable pub relocation : Link → List ℕ → List ℕ → List ℕ → ℕ → Walk → Walk
relocation l symbols sections lists j s = add_of l symbols sections (symbol_id (get_or lists j 0)) s

unfoldable pub relocations : Link → List ℕ → List ℕ → List ℕ → ℕ → ℕ → Walk → Walk
relocations l symbols sections lists first count s =
    each (relocation l symbols sections lists) (end_of l.lists first count - first) first s

unfoldable pub follow : Link → List ℕ → List ℕ → List ℕ → ℕ → Walk → Walk
follow l symbols sections lists x s = relocations l symbols sections lists (first_at sections x) (count_at sections x) s

-- what stands at place h of the queue, if that is in use
unfoldable pub visit : Link → List ℕ → List ℕ → List ℕ → ℕ → Walk → Walk
visit l symbols sections lists h s =
    cond (ltb h s.visitor.queued) (follow l symbols sections lists (get_or s.work (l.sections + h) 0) s) s

-- ---- the whole walk

unfoldable pub clear_cell : ℕ → List ℕ → List ℕ
clear_cell i work = set work i 0

-- no section was reached
unfoldable pub start_of : ℕ → List ℕ → Walk
start_of n work = walk_of (each clear_cell n 0 work) (visitor_of 0 None)

unfoldable pub roots_of : Link → List ℕ → List ℕ → List ℕ → List ℕ → List ℕ → Option SymbolId → Walk → Walk
roots_of l bytes names symbols sections marks entry s =
    entry_of l symbols sections entry
    (each (root_section l.sections bytes names sections) l.sections 0
    (each (root_symbol l symbols sections marks) l.symbols 0 s))

unfoldable pub process_of : Link → List ℕ → List ℕ → List ℕ → Walk → Walk
process_of l symbols sections lists s = each (visit l symbols sections lists) l.sections 0 s

unfoldable pub walked : Link → List ℕ → List ℕ → List ℕ → List ℕ → List ℕ → List ℕ → Option SymbolId → List ℕ → Walk
walked l bytes names symbols sections lists marks entry work =
    process_of l symbols sections lists (roots_of l bytes names symbols sections marks entry (start_of l.sections work))
