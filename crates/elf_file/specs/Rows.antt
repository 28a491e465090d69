-- Request 2026-01: what of a section header stands in its row, how many rows and cells its contents need, and whether all have room.
-- Assumes nothing.
use Rattle.std.specs.Prelude.{ℕ, zero, suc, ◌+◌, ◌*◌, ◌-◌, ◌/◌, ◌%◌, cond, List, [], ◌∷◌, eqb, ltb, leb, get_or, Option, Some, None}
use Rattle.cells.specs.Rows.{row_width}
use Rattle.gabi.specs.StringTable.{name_at}
use Rattle.byte_slices.specs.Bytes.{same}
use Rattle.gabi.specs.File.{bytes_at, is_comdat, sht_progbits, sht_symtab, sht_strtab, sht_rela, sht_rel, sht_group, sht_count, sht_gnu_hash, shf_alloc, shf_gnu_retain, shf_exclude, sym_size, rel_size, rela_size, word_size}
use Rattle.elf_object.specs.Kinds.{null, program, uninitialized, symbol_table, string_table, rel, rela, group, hash, gnu_hash, dynamic_symbols, frame_header, dynamic, unknown, note}
use Rattle.elf_object.specs.Rows.{retain_flag, read_flag, comdat_flag}
use Rattle.elf_file.specs.declared.Header.{Header}
use Rattle.elf_file.specs.File.{header_at}
use Rattle.elf_file.specs.Check.{excluded}
use Rattle.elf_file.specs.declared.rows.Room.{Room}

-- ---- how many rows and cells

-- symbols of a symbol table
unfoldable pub entries_in : Header → ℕ
entries_in h = cond (excluded h) 0 (cond (eqb h.kind sht_symtab) (h.size / sym_size) 0)

-- symbols of relocations without and with an addend; sections of a group, whose first word is its flags
unfoldable pub contents_in : Header → ℕ
contents_in h =
    cond (excluded h) 0
    (cond (eqb h.kind sht_rel) (h.size / rel_size)
    (cond (eqb h.kind sht_rela) (h.size / rela_size) (cond (eqb h.kind sht_group) (h.size / word_size - 1) 0)))

-- of k headers from i on
unfoldable pub entry_count : List ℕ → ℕ → ℕ → ℕ
entry_count table i zero = 0
entry_count table i (suc k) = entries_in (header_at table i) + entry_count table (i + 1) k

unfoldable pub content_count : List ℕ → ℕ → ℕ → ℕ
content_count table i zero = 0
content_count table i (suc k) = contents_in (header_at table i) + content_count table (i + 1) k

abbrev pub room_as : ℕ → ℕ → Room
room_as e c = record { entries = e; contents = c }

-- what is left of so many cells after so many rows and further cells
unfoldable pub left_after : ℕ → ℕ → ℕ → Option ℕ
left_after left rows cells = cond (leb (rows * row_width + cells) left) (Some (left - (rows * row_width + cells))) None

-- "then 2, place 0, too few lent rows": a row for each of n headers and each entry, and a cell for each of the contents
unfoldable pub room_of : ℕ → List ℕ → ℕ → Option Room
room_of cells table n =
    cond (leb (n * row_width + entry_count table 0 n * row_width + content_count table 0 n) cells)
    (Some (room_as (entry_count table 0 n) (content_count table 0 n)))
    None

-- ---- the row of a header

-- document 01's kinds of section types 0 to 17; type 10 is SHLIB, 12 and 13 have no meaning, "the three pointer-array types are kind 1"
abbrev pub kinds : List ℕ
kinds =
    null ∷ program ∷ symbol_table ∷ string_table ∷ rela ∷ hash ∷ dynamic ∷ note ∷ uninitialized ∷ rel ∷ unknown ∷ dynamic_symbols ∷ unknown ∷ unknown
    ∷ program ∷ program ∷ program ∷ group ∷ []

-- "type 0x6ffffff6 is kind 9, and a section type without a kind in document 01 is kind 13"
unfoldable pub kind_of : ℕ → ℕ
kind_of type = cond (eqb type sht_gnu_hash) gnu_hash (cond (ltb type sht_count) (get_or kinds type 0) unknown)

-- .eh_frame_hdr
abbrev pub eh_frame_hdr : List ℕ
eh_frame_hdr = 46 ∷ 101 ∷ 104 ∷ 95 ∷ 102 ∷ 114 ∷ 97 ∷ 109 ∷ 101 ∷ 95 ∷ 104 ∷ 100 ∷ 114 ∷ []

-- "Program data, unless named `.eh_frame_hdr` (kind 11)"; the pointer arrays are kind 1 whatever their name
unfoldable pub named_kind : List ℕ → Header → ℕ
named_kind names h = cond (eqb h.kind sht_progbits) (cond (same (name_at names h.name) eh_frame_hdr) frame_header program) (kind_of h.kind)

-- the section names' bytes; none where the file has none, or that section isn't a string table that is loaded
unfoldable pub strings_of : List ℕ → Header → List ℕ
strings_of file h = cond (excluded h) [] (cond (eqb h.kind sht_strtab) (bytes_at file h.offset h.size) [])

unfoldable pub names_of : List ℕ → List ℕ → ℕ → ℕ → List ℕ
names_of file table s n = cond (eqb s 0) [] (cond (ltb s n) (strings_of file (header_at table s)) [])

-- the number that the rows' readers get for it: past the sections where there is none
unfoldable pub strings_number : ℕ → ℕ → ℕ
strings_number s n = cond (eqb s 0) n (cond (ltb s n) s n)

unfoldable pub comdat_of : List ℕ → Header → ℕ
comdat_of file h = cond (excluded h) 0 (cond (eqb h.kind sht_group) (is_comdat (bytes_at file h.offset h.size)) 0)

-- "Section flags supply exclude (0x80000000) and read (the allocate flag); retain is the GNU retain flag, 0x200000"
unfoldable pub flags_of : List ℕ → Header → ℕ
flags_of file h =
    h.flags / shf_exclude % 2 + h.flags / shf_gnu_retain % 2 * retain_flag + h.flags / shf_alloc % 2 * read_flag + comdat_of file h * comdat_flag

-- where its contents lie: e entries and c cells of contents stand before
unfoldable pub first_row_of : Header → ℕ → ℕ → ℕ
first_row_of h e c =
    cond (excluded h) 0
    (cond (eqb h.kind sht_symtab) e
    (cond (eqb h.kind sht_strtab) h.offset (cond (eqb h.kind sht_rel) c (cond (eqb h.kind sht_rela) c (cond (eqb h.kind sht_group) c 0)))))

unfoldable pub count_of : Header → ℕ
count_of h = cond (excluded h) 0 (cond (eqb h.kind sht_symtab) (entries_in h) (cond (eqb h.kind sht_strtab) h.size (contents_in h)))

unfoldable pub header_row_of : List ℕ → List ℕ → Header → ℕ → ℕ → List ℕ
header_row_of file names h e c =
    named_kind names h ∷ h.name ∷ flags_of file h ∷ h.link ∷ h.info ∷ first_row_of h e c ∷ count_of h ∷ h.size ∷ []
