-- The gABI's chapter 4, "Object Files": the fields of a file of the 64-bit class, the least byte first. Numbers as in elf.h. Total: a byte that isn't
-- there is 0. Entries have the chapters' own sizes; the fields that repeat them (e_ehsize, e_shentsize, sh_entsize) are not read.
-- Assumes nothing.
use Rattle.std.specs.Prelude.{ℕ, ◌+◌, ◌*◌, ◌/◌, ◌%◌, cond, List, eqb, get_or, take, drop}

-- ---- "Data Encoding", ELFDATA2LSB: the least significant byte has the lowest address

abbrev pub byte_at : List ℕ → ℕ → ℕ
byte_at x i = get_or x i 0

-- Elf64_Half, two bytes
unfoldable pub half_at : List ℕ → ℕ → ℕ
half_at x i = byte_at x i + byte_at x (i + 1) * 0x100

-- Elf64_Word, four
unfoldable pub word_at : List ℕ → ℕ → ℕ
word_at x i = byte_at x i + byte_at x (i + 1) * 0x100 + byte_at x (i + 2) * 0x10000 + byte_at x (i + 3) * 0x1000000

-- Elf64_Xword, Elf64_Off, Elf64_Addr, eight
unfoldable pub xword_at : List ℕ → ℕ → ℕ
xword_at x i = word_at x i + word_at x (i + 4) * 0x100000000

-- the bytes of something in a file: its offset and its size, as far as they are there
abbrev pub bytes_at : List ℕ → ℕ → ℕ → List ℕ
bytes_at x offset size = take size (drop offset x)

-- ---- "ELF Header"

abbrev pub ehdr_size : ℕ
ehdr_size = 64

-- EI_MAG0 to EI_MAG3
abbrev pub e_magic : List ℕ → ℕ
e_magic file = word_at file 0

-- 0x7f, E, L, F
abbrev pub elf_magic : ℕ
elf_magic = 0x464c457f

-- EI_CLASS
abbrev pub e_class : List ℕ → ℕ
e_class file = byte_at file 4

abbrev pub elf_class64 : ℕ
elf_class64 = 2

-- EI_DATA
abbrev pub e_data : List ℕ → ℕ
e_data file = byte_at file 5

abbrev pub elf_data2_lsb : ℕ
elf_data2_lsb = 1

abbrev pub e_type : List ℕ → ℕ
e_type file = half_at file 16

abbrev pub et_rel : ℕ
et_rel = 1

abbrev pub e_shoff : List ℕ → ℕ
e_shoff file = xword_at file 40

abbrev pub e_shnum : List ℕ → ℕ
e_shnum file = half_at file 60

abbrev pub e_shstrndx : List ℕ → ℕ
e_shstrndx file = half_at file 62

-- ---- "Section Header"

abbrev pub shdr_size : ℕ
shdr_size = 64

abbrev pub sh_name : List ℕ → ℕ
sh_name h = word_at h 0

abbrev pub sh_type : List ℕ → ℕ
sh_type h = word_at h 4

abbrev pub sh_flags : List ℕ → ℕ
sh_flags h = xword_at h 8

abbrev pub sh_offset : List ℕ → ℕ
sh_offset h = xword_at h 24

abbrev pub sh_size : List ℕ → ℕ
sh_size h = xword_at h 32

abbrev pub sh_link : List ℕ → ℕ
sh_link h = word_at h 40

abbrev pub sh_info : List ℕ → ℕ
sh_info h = word_at h 44

-- e_shoff is 0 where the file has no section header table. From SHN_LORESERVE (0xff00) sections on e_shnum is 0, and sh_size of the header at index 0 has
-- their number
abbrev pub first_header : List ℕ → List ℕ
first_header file = bytes_at file (e_shoff file) shdr_size

unfoldable pub section_count : List ℕ → ℕ
section_count file = cond (eqb (e_shoff file) 0) 0 (cond (eqb (e_shnum file) 0) (sh_size (first_header file)) (e_shnum file))

-- the section header table, and header i of it
unfoldable pub header_table : List ℕ → List ℕ
header_table file = bytes_at file (e_shoff file) (section_count file * shdr_size)

abbrev pub header_bytes_at : List ℕ → ℕ → List ℕ
header_bytes_at table i = bytes_at table (i * shdr_size) shdr_size

abbrev pub shn_xindex : ℕ
shn_xindex = 0xffff

-- the section name string table: SHN_UNDEF (0) where the file has none; SHN_XINDEX where its index is SHN_LORESERVE or more, and sh_link of the header at
-- index 0 has it
unfoldable pub name_section : List ℕ → ℕ
name_section file = cond (eqb (e_shstrndx file) shn_xindex) (sh_link (first_header file)) (e_shstrndx file)

-- ---- "Section Types"

abbrev pub sht_progbits : ℕ
sht_progbits = 1

abbrev pub sht_symtab : ℕ
sht_symtab = 2

abbrev pub sht_strtab : ℕ
sht_strtab = 3

abbrev pub sht_rela : ℕ
sht_rela = 4

abbrev pub sht_rel : ℕ
sht_rel = 9

abbrev pub sht_group : ℕ
sht_group = 17

-- the first type without a meaning in the chapter
abbrev pub sht_count : ℕ
sht_count = 18

-- elf.h's SHT_GNU_HASH
abbrev pub sht_gnu_hash : ℕ
sht_gnu_hash = 0x6ffffff6

-- "Section Attribute Flags": SHF_ALLOC; SHF_GNU_RETAIN and SHF_EXCLUDE are elf.h's
abbrev pub shf_alloc : ℕ
shf_alloc = 0x2

abbrev pub shf_gnu_retain : ℕ
shf_gnu_retain = 0x200000

abbrev pub shf_exclude : ℕ
shf_exclude = 0x80000000

-- ---- "Symbol Table Entry"

abbrev pub sym_size : ℕ
sym_size = 24

abbrev pub symbol_at : List ℕ → ℕ → List ℕ
symbol_at table i = bytes_at table (i * sym_size) sym_size

abbrev pub st_name : List ℕ → ℕ
st_name e = word_at e 0

-- st_info
abbrev pub st_bind : List ℕ → ℕ
st_bind e = byte_at e 4 / 16

abbrev pub st_type : List ℕ → ℕ
st_type e = byte_at e 4 % 16

-- st_other: its lowest two bits
abbrev pub st_visibility : List ℕ → ℕ
st_visibility e = byte_at e 5 % 4

abbrev pub st_shndx : List ℕ → ℕ
st_shndx e = half_at e 6

abbrev pub st_value : List ℕ → ℕ
st_value e = xword_at e 8

abbrev pub st_size : List ℕ → ℕ
st_size e = xword_at e 16

-- ---- "Relocation Entry", without and with an addend

abbrev pub rel_size : ℕ
rel_size = 16

abbrev pub rela_size : ℕ
rela_size = 24

abbrev pub rel_at : List ℕ → ℕ → List ℕ
rel_at table i = bytes_at table (i * rel_size) rel_size

abbrev pub rela_at : List ℕ → ℕ → List ℕ
rela_at table i = bytes_at table (i * rela_size) rela_size

-- ELF64_R_SYM: the upper half of r_info
unfoldable pub r_sym : List ℕ → ℕ
r_sym e = xword_at e 8 / 0x100000000

-- ---- "Section Groups": words; the first has the flags, the others are the members' section header indexes

abbrev pub word_size : ℕ
word_size = 4

abbrev pub group_flags : List ℕ → ℕ
group_flags group = word_at group 0

-- GRP_COMDAT, 0x1
abbrev pub is_comdat : List ℕ → ℕ
is_comdat group = group_flags group % 2

unfoldable pub member_at : List ℕ → ℕ → ℕ
member_at group i = word_at group (i * word_size + word_size)
