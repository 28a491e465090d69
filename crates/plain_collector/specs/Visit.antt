-- What relocations reach from the roots, by recursion: of n sections, work cell i tells whether section i was visited.
-- Assumes nothing.
use Rattle.link.specs.declared.SectionId.{SectionId}
use Rattle.link.specs.declared.SymbolId.{SymbolId}
use Rattle.std.specs.Prelude.{ℕ, zero, suc, ◌+◌, ◌-◌, cond, List, eqb, get_or, set, Option, None, Some}
use Rattle.link.specs.declared.Link.{Link}
use Rattle.sections.specs.Rows.{first_at, count_at, is_built}
use Rattle.gc_sections.specs.Each.{each}
use Rattle.gc_sections.specs.Roots.{symbol_id, section_id, lead_of, is_root}
use Rattle.gc_sections.specs.Reach.{lower_of, end_of, clear_cell}

-- the work cells, and the lowest section that is reached but not built
pub record Visited : Type 0 where
  pub work : List ℕ
  pub unbuilt : Option SectionId

abbrev pub visited_of : List ℕ → Option SectionId → Visited
visited_of work u = record { work = work; unbuilt = u }

-- how many of n sections are unvisited
unfoldable pub unvisited : ℕ → List ℕ → ℕ
unvisited zero work = 0
unvisited (suc n) work = unvisited n work + cond (eqb (get_or work n 0) 0) 1 0

-- the symbol of relocation j leads there
abbrev pub target_of : Link → List ℕ → List ℕ → ℕ → Option SectionId
target_of l symbols lists j = lead_of symbols l.symbols (symbol_id (get_or lists j 0))

module _ (sections : List ℕ) (n : ℕ) (follow : ℕ → Visited → Visited) where
  -- a section that isn't built is noted; one that was visited is left; any other is marked, and `follow` goes through its relocations
  abbrev pub enter : ℕ → Visited → Visited
  enter y s =
      cond (is_built sections n y)
      (cond (eqb (get_or s.work y 0) 0) (follow y (visited_of (set s.work y 1) s.unbuilt)) s)
      (visited_of s.work (lower_of s.unbuilt (section_id y)))

  abbrev pub enter_lead : Option SectionId → Visited → Visited
  enter_lead None s = s
  enter_lead (Some id) s = enter id.0 s

-- the first number bounds how deep the calls go
unfoldable pub visit_of : Link → List ℕ → List ℕ → List ℕ → ℕ → Option SectionId → Visited → Visited
visit_of l symbols sections lists zero k s = enter_lead sections l.sections (λ y t. t) k s
visit_of l symbols sections lists (suc depth) k s =
    enter_lead sections l.sections
    (λ y t. each (λ j. visit_of l symbols sections lists depth (target_of l symbols lists j)) (end_of l.lists (first_at sections y) (count_at sections y) - first_at sections y) (first_at sections y) t)
    k s

-- no call goes deeper than there are unvisited sections
unfoldable pub visited : Link → List ℕ → List ℕ → List ℕ → Option SectionId → Visited → Visited
visited l symbols sections lists k s = visit_of l symbols sections lists (unvisited l.sections s.work) k s

-- ---- roots

-- "symbols marked by the caller"
unfoldable pub marked_lead : List ℕ → ℕ → List ℕ → ℕ → Option SectionId
marked_lead symbols count marks i = cond (eqb (get_or marks i 0) 0) None (lead_of symbols count (symbol_id i))

unfoldable pub root_lead : List ℕ → List ℕ → List ℕ → ℕ → ℕ → Option SectionId
root_lead bytes names sections n i = cond (is_root bytes names sections n i) (Some (section_id i)) None

-- "the entry symbol"
abbrev pub entry_lead : List ℕ → ℕ → Option SymbolId → Option SectionId
entry_lead symbols count None = None
entry_lead symbols count (Some id) = lead_of symbols count id

-- ---- the whole

unfoldable pub root_symbol : Link → List ℕ → List ℕ → List ℕ → List ℕ → ℕ → Visited → Visited
root_symbol l symbols sections lists marks i s = visited l symbols sections lists (marked_lead symbols l.symbols marks i) s

unfoldable pub root_section : Link → List ℕ → List ℕ → List ℕ → List ℕ → List ℕ → ℕ → Visited → Visited
root_section l bytes names symbols sections lists i s = visited l symbols sections lists (root_lead bytes names sections l.sections i) s

unfoldable pub reached_of : Link → List ℕ → List ℕ → List ℕ → List ℕ → List ℕ → List ℕ → Option SymbolId → List ℕ → Visited
reached_of l bytes names symbols sections lists marks entry work =
    visited l symbols sections lists (entry_lead symbols l.symbols entry)
    (each (root_section l bytes names symbols sections lists) l.sections 0
    (each (root_symbol l symbols sections lists marks) l.symbols 0 (visited_of (each clear_cell l.sections 0 work) None)))
