-- `remove`: "`remove` of any `Section` row drops that entry, and never forgets a global name; of a removed id it is accepted and changes nothing".
-- Assumes nothing.
use Rattle.std.specs.Prelude.{ℕ, ◌+◌, ◌*◌, cond, List, eqb, leb, set, length}
use Rattle.cells.specs.Rows.{row_width}
use Rattle.link.specs.declared.Link.{Link}
use Rattle.link.specs.declared.SymbolId.{SymbolId}
use Rattle.link.specs.Judge.{refused, change_of}
use Rattle.symbol.specs.Row.{field, state_at, kind_at}
use Rattle.symbol.specs.Layout.{state_cell, removed_state, section_kind, first_cell}
use Rattle.symbol_resolution.specs.Apply.{set_section_symbol}
use Rattle.cells.specs.Slice.{SliceMut}
use Rattle.symbols.specs.Outcome.{Outcome}
use Rattle.link.specs.Said.{Said, accepted, refusing}
use Rattle.link.specs.Bounds.{section_slots}
use Rattle.symbols.specs.Calls.{said, lent_of}

-- the lent cells that a removal may write
pub record Rows : Type 0 where
  pub symbols : List ℕ
  pub sections : List ℕ

abbrev pub rows_of : List ℕ → List ℕ → Rows
rows_of symbols sections = record { symbols = symbols; sections = sections }

-- of lent slices before the call, and after it
abbrev pub rows_before : SliceMut → SliceMut → Rows
rows_before symbols sections = rows_of symbols.entry.now sections.entry.now

abbrev pub rows_after : SliceMut → SliceMut → Rows
rows_after symbols sections = rows_of symbols.exit.now sections.exit.now

pub record RemoveLeft : Type 0 where
  pub rows : Rows
  pub link : Link
  pub said : Said

abbrev pub remove_left : Rows → Link → Said → RemoveLeft
remove_left x l s = record { rows = x; link = l; said = s }

abbrev pub remove_outcome : List ℕ → List ℕ → Outcome → RemoveLeft
remove_outcome symbols sections r = remove_left (rows_of symbols sections) r.table.link (said r.answer)

unfoldable pub drop_section : Link → List ℕ → ℕ → ℕ → List ℕ
drop_section l sections kind s = cond (eqb kind section_kind) (set_section_symbol l sections s 0) sections

-- the state alone changes, so the name stays taken
unfoldable pub remove_row_of : Link → Rows → SymbolId → Rows
remove_row_of l x id =
    cond (eqb (state_at x.symbols id.0) removed_state) x
    (rows_of (set x.symbols (id.0 * row_width + state_cell) removed_state) (drop_section l x.sections (kind_at x.symbols id.0) (field x.symbols id.0 first_cell)))

-- 22, 1; an id at or past the count: 21
unfoldable pub remove_of : Link → Rows → SymbolId → RemoveLeft
remove_of l x id =
    cond (eqb (change_of l (lent_of l.chains (length x.symbols) (section_slots (length x.sections)))).number 0)
    (cond (leb l.symbols id.0) (remove_left x l (refusing (refused 21 id.0))) (remove_left (remove_row_of l x id) l (accepted id.0)))
    (remove_left x l (refusing (change_of l (lent_of l.chains (length x.symbols) (section_slots (length x.sections))))))
