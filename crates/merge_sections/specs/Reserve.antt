-- Document 01, "Objects": sections (3, 24), in one ascending loop. A row is reserved for kinds 1 and 2; a work row notes the conversion.
-- Assumes nothing.
use Rattle.std.specs.Prelude.{ℕ, zero, suc, ◌+◌, ◌≡◌, ◌<◌, cond, List, eqb, Option, None, Some, IfSome, Result, Ok, Err}
use Rattle.cells.specs.Rows.{put_row}
use Rattle.link.specs.declared.Link.{Link}
use Rattle.link.specs.declared.cause.Refusal.{Refusal}
use Rattle.symbol.specs.Codes.{successor}
use Rattle.sections.specs.Rows as Sections
use Rattle.elf_object.specs.Kinds.{program, uninitialized, symbol_table, dynamic_symbols, frame_header, dynamic, unknown}
use Rattle.elf_object.specs.Rows.{rows_in, kind_at, is_excluded, work_cells, nothing, not_loaded}
use Rattle.merge_sections.specs.declared.Class.{Class}
use Rattle.merge_sections.specs.declared.Reserving.{Reserving}

-- the link, and the number of the loaded symbol table's section and 1 (0 for none); number 0 as long as nothing is refused
pub record Reserved : Type 0 where
  pub link : Link
  pub table : ℕ
  pub number : ℕ
  pub place : ℕ

-- the lent cells that the stage writes, and what it hands on
pub record State : Type 0 where
  pub sections : List ℕ
  pub work : List ℕ
  pub reserved : Reserved

abbrev pub state_of : List ℕ → List ℕ → Reserved → State
state_of sections work r = record { sections = sections; work = work; reserved = r }

abbrev pub reserved_of : Link → ℕ → ℕ → ℕ → Reserved
reserved_of l table number place = record { link = l; table = table; number = number; place = place }

-- the cell for the loaded symbol table's section
abbrev pub table_cell : Option ℕ → ℕ
table_cell None = 0
table_cell (Some n) = successor n

-- the same cells are lent
abbrev pub same_loans : Reserving → Reserving → Type 0
same_loans r t = (t.sections.ghost_name ≡ r.sections.ghost_name) × (t.work.ghost_name ≡ r.work.ghost_name)

-- the loaded symbol table, if it is met, is one of the object's sections
abbrev pub TableWithin : List ℕ → Reserving → Type 0
TableWithin headers r = IfSome r.table (λ n. n < rows_in headers)

-- what is lent before the call, and after it, with its answer
abbrev pub reserving : Reserving → ℕ → ℕ → State
reserving r number place = state_of r.sections.now r.work.now (reserved_of r.link (table_cell r.table) number place)

abbrev pub state_before : Reserving → State
state_before r = reserving r 0 0

abbrev pub state_after : Reserving → Result Unit Refusal → State
state_after r (Ok tt) = reserving r 0 0
state_after r (Err e) = reserving r e.number e.place

-- what the stage does with a section
abbrev pub excluded_class : ℕ
excluded_class = 0

-- "Non-excluded sections other than kinds 1 and 2 are "not loaded""
abbrev pub other_class : ℕ
other_class = 1

-- gets a row
abbrev pub row_class : ℕ
row_class = 2

-- the symbol table, not loaded either
abbrev pub table_class : ℕ
table_class = 3

-- "kinds 10 to 13"
abbrev pub refused_class : ℕ
refused_class = 4

abbrev pub code_of : Class → ℕ
code_of Class.Excluded = excluded_class
code_of Class.Other = other_class
code_of Class.Row = row_class
code_of Class.Table = table_class
code_of Class.Refused = refused_class

unfoldable pub kind_class : ℕ → ℕ
kind_class k =
    cond (eqb k program) row_class
    (cond (eqb k uninitialized) row_class
    (cond (eqb k symbol_table) table_class
    (cond (eqb k dynamic_symbols) refused_class
    (cond (eqb k frame_header) refused_class
    (cond (eqb k dynamic) refused_class (cond (eqb k unknown) refused_class other_class))))))

unfoldable pub class_of : List ℕ → ℕ → ℕ
class_of headers n = cond (is_excluded headers n) excluded_class (kind_class (kind_at headers n))

-- 3; "second symbol table" 24; "no free row" 2
unfoldable pub reserve_number : Link → List ℕ → ℕ → ℕ → ℕ
reserve_number l sections class table =
    cond (eqb class refused_class) 3
    (cond (eqb class table_class) (cond (eqb table 0) 0 24) (cond (eqb class row_class) (cond (Sections.room_of l sections) 0 2) 0))

-- the id and `idBase`, where there is such a number
unfoldable pub conversion_of : ℕ → ℕ → ℕ
conversion_of class id = cond (eqb class excluded_class) nothing (cond (eqb class row_class) (successor (successor id)) not_loaded)

unfoldable pub table_after : ℕ → ℕ → ℕ → ℕ
table_after table class n = cond (eqb class table_class) (successor n) table

unfoldable pub note_of : List ℕ → ℕ → ℕ → List ℕ
note_of work n conversion = put_row work n (work_cells conversion)

unfoldable pub take_row_of : Sections.Sections → ℕ → Sections.Sections
take_row_of s class = cond (eqb class row_class) (Sections.reserve_of s) s

abbrev pub after_row : Reserved → List ℕ → ℕ → ℕ → Sections.Sections → State
after_row r work class n s = state_of s.rows work (reserved_of s.link (table_after r.table class n) 0 0)

-- a section of that class, and the number of its refusal
unfoldable pub reserve_class_of : State → ℕ → ℕ → ℕ → State
reserve_class_of s n class number =
    cond (eqb number 0)
    (after_row s.reserved (note_of s.work n (conversion_of class s.reserved.link.sections)) class n
    (take_row_of (Sections.sections_of s.sections s.reserved.link) class))
    (state_of s.sections s.work (reserved_of s.reserved.link s.reserved.table number n))

unfoldable pub reserve_one_of : List ℕ → State → ℕ → State
reserve_one_of headers s n =
    reserve_class_of s n (class_of headers n) (reserve_number s.reserved.link s.sections (class_of headers n) s.reserved.table)

-- k sections from the n-th on, up to the first refusal
unfoldable pub reserve_from : List ℕ → ℕ → ℕ → State → State
reserve_from headers zero n s = s
reserve_from headers (suc k) n s =
    cond (eqb (reserve_one_of headers s n).reserved.number 0) (reserve_from headers k (n + 1) (reserve_one_of headers s n)) (reserve_one_of headers s n)

unfoldable pub reserve_all_of : List ℕ → State → State
reserve_all_of headers s = reserve_from headers (rows_in headers) 0 s
