-- What was not reached goes: "Dropped sections go by ascending id, their symbols' rows with them".
-- Assumes nothing.
use Rattle.link.specs.declared.SectionId.{SectionId}
use Rattle.std.specs.Prelude.{ℕ, ◌+◌, Bool, true, false, cond, List, eqb, ltb, get_or, set, Option, None, Some}
use Rattle.link.specs.declared.Link.{Link}
use Rattle.symbols.specs.Remove.{Rows, remove_row_of}
use Rattle.sections.specs.Rows.{dropped_of, is_built}
use Rattle.gc_sections.specs.Each.{each}
use Rattle.gc_sections.specs.Roots.{symbol_id, section_id, lead_of}

-- the lent cells that the pass over the sections writes, and how many it dropped
pub record Swept : Type 0 where
  pub sections : List ℕ
  pub work : List ℕ
  pub count : ℕ

abbrev pub swept_of : List ℕ → List ℕ → ℕ → Swept
swept_of sections work count = record { sections = sections; work = work; count = count }

-- what a section's work cell holds where this call dropped it; 0 not reached, 1 reached
abbrev pub dropped_mark : ℕ
dropped_mark = 2

-- is it built, and was it not reached?
abbrev pub unreached : ℕ → List ℕ → List ℕ → ℕ → Bool
unreached n sections work i = cond (is_built sections n i) (cond (eqb (get_or work i 0) 0) true false) false

-- a section that is built and was not reached is dropped
unfoldable pub drop_unreached : ℕ → ℕ → Swept → Swept
drop_unreached n i s =
    cond (is_built s.sections n i)
    (cond (eqb (get_or s.work i 0) 0) (swept_of (dropped_of s.sections (section_id i)) (set s.work i dropped_mark) (s.count + 1)) s) s

unfoldable pub dropped_now : List ℕ → ℕ → ℕ → Bool
dropped_now work n x = cond (ltb x n) (cond (eqb (get_or work x 0) dropped_mark) true false) false

-- the lent cells that the pass over the symbols writes, and how many it removed
pub record Purged : Type 0 where
  pub rows : Rows
  pub count : ℕ

abbrev pub purged_of : Rows → ℕ → Purged
purged_of rows count = record { rows = rows; count = count }

-- was the section that a symbol leads to dropped?
abbrev pub falls : List ℕ → ℕ → Option SectionId → Bool
falls work n None = false
falls work n (Some x) = dropped_now work n x.0

abbrev pub purge_lead : Link → List ℕ → ℕ → Option SectionId → Purged → Purged
purge_lead l work i None s = s
purge_lead l work i (Some x) s = cond (dropped_now work l.sections x.0) (purged_of (remove_row_of l s.rows (symbol_id i)) (s.count + 1)) s

-- a symbol in a section that this call dropped is removed
unfoldable pub purge_symbol : Link → List ℕ → ℕ → Purged → Purged
purge_symbol l work i s = purge_lead l work i (lead_of s.rows.symbols l.symbols (symbol_id i)) s

unfoldable pub sweep_sections : ℕ → List ℕ → List ℕ → Swept
sweep_sections n sections work = each (drop_unreached n) n 0 (swept_of sections work 0)

unfoldable pub purge_symbols : Link → List ℕ → Rows → Purged
purge_symbols l work rows = each (purge_symbol l work) l.symbols 0 (purged_of rows 0)
