-- Request 2026-01: the reader. It "works over the lent bytes and produces exactly the rows of document 01", in one lent list of cells: headers, then
-- the entries of all symbol tables, then the contents of all relocation tables and groups, each in the sections' order. What is written is said
-- here cell by cell, as the code writes it; that these are the rows one after the other is proved in elf_laws.
-- Assumes nothing.
use Rattle.std.specs.Prelude.{ℕ, zero, suc, ◌+◌, ◌*◌, cond, List, [], ◌∷◌, eqb, length, set, Option, Some, None}
use Rattle.cells.specs.Rows.{put_row, row_width}
use Rattle.elf_file.specs.declared.Header.{Header}
use Rattle.gabi.specs.File.{section_count, header_table, name_section, symbol_at, st_name, st_bind, st_type, st_visibility, st_shndx, st_value, st_size, r_sym, rel_at, rela_at, member_at, bytes_at, sht_rel, sht_group}
use Rattle.elf_file.specs.File.{header_at}
use Rattle.elf_file.specs.Check.{file_refusal}
use Rattle.elf_file.specs.declared.rows.Room.{Room}
use Rattle.elf_file.specs.Rows.{entries_in, contents_in, room_of, names_of, strings_number, header_row_of}

-- ---- rows of headers: k of them from i on; e entries and c cells of contents stand before

unfoldable pub headers_into : List ℕ → List ℕ → List ℕ → List ℕ → ℕ → ℕ → ℕ → ℕ → List ℕ
headers_into file names table l i e c zero = l
headers_into file names table l i e c (suc k) =
    headers_into file names table (put_row l i (header_row_of file names (header_at table i) e c)) (i + 1) (e + entries_in (header_at table i))
    (c + contents_in (header_at table i))
    k

-- ---- rows of symbols

unfoldable pub symbol_row : List ℕ → List ℕ
symbol_row e = st_name e ∷ st_bind e ∷ st_type e ∷ st_visibility e ∷ st_shndx e ∷ st_value e ∷ st_size e ∷ 0 ∷ []

-- the bytes of a section
abbrev pub bytes_of : List ℕ → Header → List ℕ
bytes_of file h = bytes_at file h.offset h.size

-- k symbols of a table from j on, from row `at + j` on
unfoldable pub symbols_into : List ℕ → List ℕ → ℕ → ℕ → ℕ → List ℕ
symbols_into bytes l at j zero = l
symbols_into bytes l at j (suc k) = symbols_into bytes (put_row l (at + j) (symbol_row (symbol_at bytes j))) at (j + 1) k

-- those of k sections from i on
unfoldable pub all_symbols_into : List ℕ → List ℕ → List ℕ → ℕ → ℕ → ℕ → List ℕ
all_symbols_into file table l at i zero = l
all_symbols_into file table l at i (suc k) =
    all_symbols_into file table (symbols_into (bytes_of file (header_at table i)) l at 0 (entries_in (header_at table i))) (at + entries_in (header_at table i)) (i + 1) k

-- ---- symbols of relocations, sections of groups

unfoldable pub element_at : ℕ → List ℕ → ℕ → ℕ
element_at type bytes j =
    cond (eqb type sht_group) (member_at bytes j) (cond (eqb type sht_rel) (r_sym (rel_at bytes j)) (r_sym (rela_at bytes j)))

unfoldable pub elements_into : ℕ → List ℕ → List ℕ → ℕ → ℕ → ℕ → List ℕ
elements_into type bytes l at j zero = l
elements_into type bytes l at j (suc k) = elements_into type bytes (set l (at + j) (element_at type bytes j)) at (j + 1) k

unfoldable pub all_elements_into : List ℕ → List ℕ → List ℕ → ℕ → ℕ → ℕ → List ℕ
all_elements_into file table l at i zero = l
all_elements_into file table l at i (suc k) =
    all_elements_into file table
    (elements_into (header_at table i).kind (bytes_of file (header_at table i)) l at 0 (contents_in (header_at table i)))
    (at + contents_in (header_at table i))
    (i + 1)
    k

-- ---- the file

-- with e entries in all
unfoldable pub written_of : List ℕ → List ℕ → List ℕ → List ℕ → ℕ → ℕ → List ℕ
written_of file names table l n e =
    all_elements_into file table (all_symbols_into file table (headers_into file names table l 0 0 0 n) n 0 n) ((n + e) * row_width) 0 n

-- a refusal, or number 0 and how many rows and cells of each sort were written, and the section of the sections' names
pub record Reading : Type 0 where
  pub number : ℕ
  pub place : ℕ
  pub sections : ℕ
  pub entries : ℕ
  pub contents : ℕ
  pub strings : ℕ

-- the lent cells and the answer
pub record Done : Type 0 where
  pub cells : List ℕ
  pub answer : Reading

abbrev pub done : List ℕ → Reading → Done
done l r = record { cells = l; answer = r }

abbrev pub read_as : ℕ → ℕ → ℕ → ℕ → ℕ → ℕ → Reading
read_as number place sections entries contents strings =
    record { number = number; place = place; sections = sections; entries = entries; contents = contents; strings = strings }

unfoldable pub roomed_of : List ℕ → List ℕ → List ℕ → ℕ → ℕ → Option Room → Done
roomed_of file table l n s None = done l (read_as 2 0 0 0 0 0)
roomed_of file table l n s (Some m) =
    done (written_of file (names_of file table s n) table l n m.entries) (read_as 0 0 n m.entries m.contents (strings_number s n))

-- "26 [..]; 27, after 26 [..]; then 2, place 0, too few lent rows; all leave everything"
unfoldable pub read_of : List ℕ → List ℕ → Done
read_of file l =
    cond (eqb (file_refusal file).number 0)
    (roomed_of file (header_table file) l (section_count file) (name_section file) (room_of (length l) (header_table file) (section_count file)))
    (done l (read_as (file_refusal file).number (file_refusal file).place 0 0 0 0))
