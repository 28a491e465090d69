-- Request 2026-01, cases: whole files with their refusals, single tables, single headers with their kinds and rows.
-- Assumes nothing.
use Rattle.std.specs.Prelude.{ℕ, Bool, true, false, List, [], ◌∷◌, ◌++◌, take, replicate}
use Rattle.link.specs.declared.cause.Refusal.{Refusal}
use Rattle.link.specs.Judge.{refused}
use Rattle.elf_file.specs.declared.Header.{Header}
use Rattle.elf_file.specs.Check.{section_ok, file_refusal}
use Rattle.elf_file.specs.Rows.{eh_frame_hdr, kind_of, named_kind, header_row_of}
use Rattle.elf_laws.specs.Back.{le2, le4, le8}

-- ---- whole files

-- an ELF header of that type, with its headers at shoff
abbrev head : ℕ → ℕ → ℕ → List ℕ → List ℕ
head type shoff n r =
    0x7f ∷ 69 ∷ 76 ∷ 70 ∷ 2 ∷ 1 ∷ 1 ∷ 0
    ∷ le8 0 (le2 type (le2 62 (le4 1 (le8 0 (le8 0 (le8 shoff (le4 0 (le2 64 (le2 0 (le2 0 (le2 64 (le2 n (le2 0 r)))))))))))))

abbrev zeros : ℕ → List ℕ
zeros k = replicate {A = ℕ} k 0

-- e_shnum 0 and e_shstrndx 0xffff: header 0 has the number of sections and that of the names' section
abbrev pub numbered : List ℕ
numbered =
    0x7f ∷ 69 ∷ 76 ∷ 70 ∷ 2 ∷ 1 ∷ 1 ∷ 0
    ∷ le8 0 (le2 1 (le2 62 (le4 1 (le8 0 (le8 0 (le8 64 (le4 0 (le2 64 (le2 0 (le2 0 (le2 64 (le2 0 (le2 0xffff (le4 0 (le4 0 (le8 0 (le8 0 (le8 0 (le8 3 (le4 2 (le4 9 (le8 0 (le8 0 [])))))))))))))))))))))))

pub record File : Type 0 where
  pub bytes : List ℕ
  pub refusal : Refusal

abbrev file : List ℕ → ℕ → File
file l n = record { bytes = l; refusal = refused n 0 }

abbrev pub files : List File
files =
    -- no bytes, too few, an executable; a file without sections is read
    file [] 26
    ∷ file (take 63 (head 1 0 0 [])) 26
    ∷ file (head 2 0 0 []) 26
    ∷ file (head 1 0 0 []) 0
    -- the headers are cut short; whole they are read
    ∷ file (head 1 64 2 (zeros 127)) 27
    ∷ file (head 1 64 2 (zeros 128)) 0
    -- sums don't wrap
    ∷ file (head 1 0xffffffffffffffff 1 (zeros 64)) 27
    ∷ []

abbrev pub file_answers : List File → List Refusal
file_answers [] = []
file_answers (x ∷ xs) = file_refusal x.bytes ∷ file_answers xs

abbrev pub file_refusals : List File → List Refusal
file_refusals [] = []
file_refusals (x ∷ xs) = x.refusal ∷ file_refusals xs

-- ---- tables in a file of 1,000 bytes: type, flags, place, size, and whether they pass

abbrev section : ℕ → ℕ → ℕ → ℕ → Header
section kind flags offset size = record { name = 1; kind = kind; flags = flags; offset = offset; size = size; link = 7; info = 9 }

pub record Table : Type 0 where
  pub header : Header
  pub passes : Bool

abbrev table : Header → Bool → Table
table h b = record { header = h; passes = b }

abbrev pub tables : List Table
tables =
    -- a string table past the end, and one of no bytes past it
    table (section 3 0 0xffffffffffffffff 2) false
    ∷ table (section 3 0 1001 0) false
    -- entries of the other relocation table's size
    ∷ table (section 9 0 0 24) false
    ∷ table (section 4 0 0 16) false
    -- a group without flags, one of no section, an excluded one without flags
    ∷ table (section 17 0 0 0) false
    ∷ table (section 17 0 0 4) true
    ∷ table (section 17 0x80000000 0 0) true
    -- data and a dynamic symbol table may lie anywhere
    ∷ table (section 1 0 5000 5000) true
    ∷ table (section 11 0 5000 5000) true
    ∷ []

abbrev pub tables_judged : List Table → List Bool
tables_judged [] = []
tables_judged (x ∷ xs) = section_ok 1000 x.header ∷ tables_judged xs

abbrev pub tables_pass : List Table → List Bool
tables_pass [] = []
tables_pass (x ∷ xs) = x.passes ∷ tables_pass xs

-- ---- rows, with 5 entries and 8 cells of contents before; the names are those of `.eh_frame_hdr` at 1

abbrev names : List ℕ
names = 0 ∷ (eh_frame_hdr ++ (0 ∷ []))

pub record HeaderRow : Type 0 where
  pub file : List ℕ
  pub header : Header
  pub row : List ℕ

abbrev header_row : List ℕ → Header → List ℕ → HeaderRow
header_row f h r = record { file = f; header = h; row = r }

-- type, first, count, size
abbrev pub header_rows : List HeaderRow
header_rows =
    -- a symbol table, an excluded one, a dynamic one
    header_row [] (section 2 0 100 48) (3 ∷ 1 ∷ 0 ∷ 7 ∷ 9 ∷ 5 ∷ 2 ∷ 48 ∷ [])
    ∷ header_row [] (section 2 0x80000000 100 48) (3 ∷ 1 ∷ 1 ∷ 7 ∷ 9 ∷ 0 ∷ 0 ∷ 48 ∷ [])
    ∷ header_row [] (section 11 2 100 48) (10 ∷ 1 ∷ 4 ∷ 7 ∷ 9 ∷ 0 ∷ 0 ∷ 48 ∷ [])
    -- a COMDAT group
    ∷ header_row (1 ∷ 0 ∷ 0 ∷ 0 ∷ 3 ∷ 0 ∷ 0 ∷ 0 ∷ []) (section 17 0x200000 0 8) (7 ∷ 1 ∷ 10 ∷ 7 ∷ 9 ∷ 8 ∷ 1 ∷ 8 ∷ [])
    ∷ []

abbrev pub rows_read : List HeaderRow → List (List ℕ)
rows_read [] = []
rows_read (x ∷ xs) = header_row_of x.file names x.header 5 8 ∷ rows_read xs

abbrev pub rows_wanted : List HeaderRow → List (List ℕ)
rows_wanted [] = []
rows_wanted (x ∷ xs) = x.row ∷ rows_wanted xs

-- ---- kinds

-- a section of that type, named `.eh_frame_hdr`
abbrev pub frame_header_kind : ℕ → ℕ
frame_header_kind type = named_kind names (section type 2 0 0)

abbrev pub kinds_of : List ℕ → List ℕ
kinds_of [] = []
kinds_of (t ∷ ts) = kind_of t ∷ kinds_of ts

-- types 0 to 19, hash of the GNU form, and an unknown one
abbrev pub types : List ℕ
types = 0 ∷ 1 ∷ 2 ∷ 3 ∷ 4 ∷ 5 ∷ 6 ∷ 7 ∷ 8 ∷ 9 ∷ 10 ∷ 11 ∷ 12 ∷ 13 ∷ 14 ∷ 15 ∷ 16 ∷ 17 ∷ 18 ∷ 19 ∷ 0x6ffffff6 ∷ 0x70000001 ∷ []
