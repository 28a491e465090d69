-- An object as a list tells it: its cells and bytes, and how far they are told. Headers begin at cell 0, entries of symbol tables at 2,048, contents
-- at 4,096; each part has 2,048 cells.
-- Assumes nothing.
use Rattle.std.specs.Prelude.{ℕ, zero, suc, ◌+◌, ◌*◌, ◌%◌, ◌^◌, cond, List, [], ◌∷◌, ◌==◌, nat_lt, slice_set}
use Rattle.byte_slices.specs.Bytes.{part}
use Rattle.cells.specs.Rows.{put_row}
use Rattle.symbol.specs.Codes.{successor}
use Rattle.text.specs.Fields.{field_of}
use Rattle.replay_words.specs.Words.{word_is, number_at, optional_at, one_word}
use Rattle.replay_words.specs.Spelled.{Spelled, put_bytes}
use Rattle.replay_object.specs.declared.Object.{Object}
use Rattle.replay_object.specs.declared.Kind.{Kind}
use Rattle.replay_object.specs.declared.Kind.TheVariants as Kinds

abbrev pub wrapped : ℕ → ℕ
wrapped n = n % 2 ^ 64

-- nothing of it is told yet
abbrev pub announced_as : ℕ → ℕ → ℕ → Object
announced_as sections symbols strings =
    record { sections = sections; symbols = symbols; strings = strings; headers = 0; entries = 0; contents = 0; bytes = 0 }

unfoldable pub announce_of : List ℕ → Object
announce_of line = announced_as (number_at line 1) (number_at line 2) (number_at line 3)

-- ---- what is lent of it

-- the cells of so many rows, as far as a part holds them
unfoldable pub part_cells : ℕ → ℕ
part_cells rows = cond (nat_lt rows 256) (rows * 8) 2048

unfoldable pub headers_in : List ℕ → Object → List ℕ
headers_in c o = part c 0 (part_cells o.sections)

unfoldable pub entries_in : List ℕ → Object → List ℕ
entries_in c o = part c 2048 (part_cells o.symbols)

abbrev pub contents_in : List ℕ → Object → List ℕ
contents_in c o = part c 4096 o.contents

-- behind the contents, for direct adds
abbrev pub conversion_in : List ℕ → List ℕ
conversion_in c = part c 6144 64

-- ---- a section

unfoldable pub flag_of : List ℕ → ℕ → ℕ → ℕ
flag_of line k value = cond (word_is line k one_word) value 0

-- exclude, retain, read, COMDAT
unfoldable pub flags_of : List ℕ → ℕ
flags_of line = flag_of line 3 1 + flag_of line 4 2 + flag_of line 5 4 + flag_of line 8 8

-- the j-th word of a section's list
unfoldable pub listed_of : List ℕ → ℕ → List ℕ → ℕ → List ℕ
listed_of c at line j = slice_set c (wrapped (at + j)) (number_at line (wrapped (11 + j)))

-- n of them from the j-th on
unfoldable pub list_from : ℕ → List ℕ → ℕ → List ℕ → ℕ → List ℕ
list_from zero c at line j = c
list_from (suc n) c at line j = list_from n (listed_of c at line j) at line (j + 1)

-- none where a part can't hold them
unfoldable pub put_list_of : List ℕ → ℕ → List ℕ → ℕ → List ℕ
put_list_of c at line count = cond (nat_lt 2048 count) c (list_from count c at line 0)

-- 3 and 10 are tables of symbols, 4 is one of strings
unfoldable pub kind_of : ℕ → Kind
kind_of number = cond (number == 3) Kinds.Symbols (cond (number == 10) Kinds.Symbols (cond (number == 4) Kinds.Strings Kinds.Words))

-- where its contents begin: by the list's words for a symbol table, in the file for a string table, else among the contents
unfoldable pub contents_start_of : Object → List ℕ → ℕ → ℕ
contents_start_of o line kind =
    cond (kind == 3) (number_at line 11) (cond (kind == 10) (number_at line 11) (cond (kind == 4) o.bytes o.contents))

unfoldable pub count_of : List ℕ → ℕ → ℕ → ℕ
count_of line kind bytes =
    cond (kind == 3) (number_at line 12) (cond (kind == 10) (number_at line 12) (cond (kind == 4) bytes (number_at line 10)))

-- kind, name, flags, link, info, contents
unfoldable pub header_of : List ℕ → Object → List ℕ → ℕ → List ℕ
header_of c o line bytes =
    put_row c o.headers
    (number_at line 1
    ∷ number_at line 2
    ∷ flags_of line
    ∷ number_at line 6
    ∷ number_at line 7
    ∷ contents_start_of o line (number_at line 1)
    ∷ count_of line (number_at line 1) bytes
    ∷ 0
    ∷ [])

abbrev pub more_of : Object → ℕ → ℕ → ℕ → ℕ → Object
more_of o headers entries contents bytes =
    record {
      sections = o.sections;
      symbols = o.symbols;
      strings = o.strings;
      headers = headers;
      entries = entries;
      contents = contents;
      bytes = bytes;
    }

pub record Told : Type 0 where
  pub cells : List ℕ
  pub file : List ℕ
  pub object : Object

abbrev pub told_as : List ℕ → List ℕ → Object → Told
told_as c f o = record { cells = c; file = f; object = o }

-- s: its bytes in the file
unfoldable pub section_after : List ℕ → Object → List ℕ → Spelled → Told
section_after c o line s =
    told_as (header_of (put_list_of c (wrapped (4096 + o.contents)) line (number_at line 10)) o line s.count) s.to
    (more_of o (successor o.headers) o.entries (wrapped (o.contents + number_at line 10)) (wrapped (o.bytes + s.count)))

unfoldable pub section_of : List ℕ → List ℕ → Object → List ℕ → Told
section_of c f o line = section_after c o line (put_bytes f o.bytes (field_of line 9))

-- ---- a symbol

pub record Cells : Type 0 where
  pub cells : List ℕ
  pub object : Object

abbrev pub cells_as : List ℕ → Object → Cells
cells_as c o = record { cells = c; object = o }

unfoldable pub symbol_of : List ℕ → Object → List ℕ → Cells
symbol_of c o line =
    cells_as
    (put_row c (wrapped (256 + o.entries))
    (number_at line 1 ∷ number_at line 2 ∷ number_at line 3 ∷ number_at line 4 ∷ number_at line 5 ∷ number_at line 6 ∷ optional_at line 7 ∷ 0 ∷ []))
    (more_of o o.headers (successor o.entries) o.contents o.bytes)
