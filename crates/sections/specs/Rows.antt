-- Section rows: "rows in lent slices". A row is reserved for each program and uninitialized section, then built, and maybe dropped; it keeps its size then.
-- Assumes nothing.
use Rattle.std.specs.Prelude.{ℕ, ◌+◌, ◌*◌, Bool, true, false, cond, List, [], ◌∷◌, eqb, ltb, leb, get_or, set, length}
use Rattle.cells.specs.Rows.{put_row, row_width}
use Rattle.link.specs.declared.Link.{Link}
use Rattle.link.specs.declared.SectionId.{SectionId}
use Rattle.link.specs.Bounds.{lesser, section_slots, section_rows}
use Rattle.link.specs.Counts.{more_sections}
use Rattle.sections.specs.declared.Section.{Section}

-- the lent cells and the counts
pub record Sections : Type 0 where
  pub rows : List ℕ
  pub link : Link

abbrev pub sections_of : List ℕ → Link → Sections
sections_of rows l = record { rows = rows; link = l }

abbrev pub field : List ℕ → ℕ → ℕ → ℕ
field rows i f = get_or rows (i * row_width + f) 0

-- a row's state; 0 is free
abbrev pub reserved_state : ℕ
reserved_state = 1

abbrev pub built_state : ℕ
built_state = 2

abbrev pub dropped_state : ℕ
dropped_state = 3

-- its kind, by document 01's numbers
abbrev pub program : ℕ
program = 1

abbrev pub uninitialized : ℕ
uninitialized = 2

abbrev pub state_at : List ℕ → ℕ → ℕ
state_at rows i = field rows i 0

abbrev pub name_id_at : List ℕ → ℕ → ℕ
name_id_at rows i = field rows i 1

abbrev pub kind_at : List ℕ → ℕ → ℕ
kind_at rows i = field rows i 2

abbrev pub retain_at : List ℕ → ℕ → ℕ
retain_at rows i = field rows i 3

abbrev pub read_at : List ℕ → ℕ → ℕ
read_at rows i = field rows i 4

-- where its relocations' symbols lie in the lists
abbrev pub first_at : List ℕ → ℕ → ℕ
first_at rows i = field rows i 5

abbrev pub count_at : List ℕ → ℕ → ℕ
count_at rows i = field rows i 6

-- how many bytes the section has; of a dropped one too
abbrev pub size_at : List ℕ → ℕ → ℕ
size_at rows i = field rows i 7

-- "section rows [..] to 65,535; always also the lent length", of a new table and of this call
unfoldable pub room_of : Link → List ℕ → Bool
room_of l rows = cond (ltb l.sections (section_rows (lesser l.slots (section_slots (length rows))))) true false

-- a row's cells, in the fields' order
abbrev pub section_cells : ℕ → ℕ → ℕ → ℕ → ℕ → ℕ → ℕ → ℕ → List ℕ
section_cells state name kind retain read first count size = state ∷ name ∷ kind ∷ retain ∷ read ∷ first ∷ count ∷ size ∷ []

abbrev pub reserved_cells : List ℕ
reserved_cells = section_cells reserved_state 0 0 0 0 0 0 0

abbrev pub built_cells : Section → List ℕ
built_cells s = section_cells built_state s.name.0 s.kind s.retain s.read s.first s.count s.size

unfoldable pub reserve_of : Sections → Sections
reserve_of s =
    cond (room_of s.link s.rows) (sections_of (put_row s.rows s.link.sections reserved_cells) (more_sections s.link)) s

unfoldable pub built_of : List ℕ → SectionId → Section → List ℕ
built_of rows id s = put_row rows id.0 (built_cells s)

abbrev pub dropped_of : List ℕ → SectionId → List ℕ
dropped_of rows id = set rows (id.0 * row_width + 0) dropped_state

unfoldable pub is_built : List ℕ → ℕ → ℕ → Bool
is_built rows count i = cond (leb count i) false (cond (eqb (state_at rows i) built_state) true false)
