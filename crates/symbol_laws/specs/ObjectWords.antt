-- An object as it is lent, in document 01's words: its rows of 8 cells, and what stands in each. Words for statements: no function and no contract has
-- them.
-- Assumes nothing.
use Rattle.std.specs.Prelude.{ℕ, ◌+◌, ◌*◌, ◌/◌, ◌%◌, Bool, cond, not, ◌&&◌, List, [], eqb, ltb, get_or, take, drop, length}
use Rattle.gabi.specs.SymbolTable.{Sym}

abbrev cell : List ℕ → ℕ → ℕ → ℕ
cell rows n f = get_or rows (n * 8 + f) 0

-- a list's part: so many cells from the first
abbrev pub part_from : List ℕ → ℕ → ℕ → List ℕ
part_from l first count = take count (drop first l)

-- ---- sections

abbrev pub sections_in : List ℕ → ℕ
sections_in headers = length headers / 8

-- document 01's kinds
abbrev pub program : ℕ
program = 1

abbrev pub uninitialized : ℕ
uninitialized = 2

abbrev pub symbol_table : ℕ
symbol_table = 3

abbrev pub string_table : ℕ
string_table = 4

abbrev pub rel : ℕ
rel = 5

abbrev pub rela : ℕ
rela = 6

abbrev pub group : ℕ
group = 7

abbrev pub dynamic_symbols : ℕ
dynamic_symbols = 10

module _ (headers : List ℕ) (n : ℕ) where
  abbrev pub kind_of : ℕ
  kind_of = cell headers n 0

  abbrev pub name_offset : ℕ
  name_offset = cell headers n 1

  -- flags: 1 exclude, 2 retain, 4 read
  abbrev pub is_excluded : Bool
  is_excluded = eqb (cell headers n 2 % 2) 1

  abbrev pub retains : ℕ
  retains = cell headers n 2 / 2 % 2

  abbrev pub reads : ℕ
  reads = cell headers n 2 / 4 % 2

  abbrev pub link_of : ℕ
  link_of = cell headers n 3

  -- of a relocation table the section that it applies to
  abbrev pub info_of : ℕ
  info_of = cell headers n 4

  abbrev pub first_entry_row : ℕ
  first_entry_row = cell headers n 5

  abbrev pub count_of : ℕ
  count_of = cell headers n 6

  abbrev pub is_section : Bool
  is_section = ltb n (sections_in headers)

  -- a section of that kind
  abbrev pub has_kind : ℕ → Bool
  has_kind kind = is_section && eqb kind_of kind

  -- "Excluded sections vanish first"
  unfoldable pub loaded_as : ℕ → Bool
  loaded_as kind = has_kind kind && not is_excluded

-- ---- names

-- the bytes of a string section; of another section none. That a name is missing there has to be said beside: an empty string section has one
unfoldable pub strings_of : List ℕ → List ℕ → Bool → ℕ → List ℕ
strings_of headers file there n = cond there (part_from file (first_entry_row headers n) (count_of headers n)) []

-- ---- symbols

-- the entries of symbol table t
abbrev pub entries_of : List ℕ → List ℕ → ℕ → List ℕ
entries_of headers entries t = part_from entries (first_entry_row headers t * 8) (count_of headers t * 8)

abbrev pub entries_in : List ℕ → ℕ
entries_in table = length table / 8

module _ (table : List ℕ) (i : ℕ) where
  abbrev pub entry_name : ℕ
  entry_name = cell table i 0

  -- 2026-06: "Every symbol row gains a size"
  abbrev pub entry_size : ℕ
  entry_size = cell table i 6

  -- gABI's numbers
  abbrev pub entry : Sym
  entry = record { binding = cell table i 1; type = cell table i 2; visibility = cell table i 3; section = cell table i 4; value = cell table i 5 }
