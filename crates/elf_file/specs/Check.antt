-- Request 2026-01: refusals 26 and 27 of a file. Sums are sums of numbers: an offset near 2^64 lies past the file's end.
-- Assumes nothing.
use Rattle.std.specs.Prelude.{ℕ, ◌+◌, ◌*◌, ◌/◌, ◌%◌, Bool, true, false, cond, List, eqb, ltb, length}
use Rattle.link.specs.declared.cause.Refusal.{Refusal}
use Rattle.link.specs.Judge.{refused}
use Rattle.elf_object.specs.Judge.{first_bad}
use Rattle.elf_file.specs.declared.Header.{Header}
use Rattle.gabi.specs.File.{e_magic, elf_magic, e_class, elf_class64, e_data, elf_data2_lsb, e_type, et_rel, e_shoff, section_count, header_table, sht_symtab, sht_strtab, sht_rela, sht_rel, sht_group, ehdr_size, shdr_size, sym_size, rel_size, rela_size, word_size, shf_exclude}
use Rattle.elf_file.specs.File.{header_at}

-- "26, first four bytes or class or byte order or type not as above, or a file below 64 bytes"
unfoldable pub is_object : List ℕ → Bool
is_object file =
    cond (ltb (length file) ehdr_size) false
    (cond (eqb (e_magic file) elf_magic)
    (cond (eqb (e_class file) elf_class64) (cond (eqb (e_data file) elf_data2_lsb) (cond (eqb (e_type file) et_rel) true false) false) false)
    false)

-- "27, [..] the section headers (place 0)": none, or the first and all of them lie in the file. Header 0 may have their number
unfoldable pub headers_fit : ℕ → ℕ → ℕ → Bool
headers_fit len shoff n = cond (eqb shoff 0) true (cond (ltb len (shoff + shdr_size)) false (cond (ltb len (shoff + n * shdr_size)) false true))

-- "exclude (0x80000000)"
unfoldable pub excluded : Header → Bool
excluded h = cond (eqb (h.flags / shf_exclude % 2) 1) true false

-- "its entry sizes fixed": symbols, Rela, Rel, group words, bytes of strings; 0 for a section that is no such table
unfoldable pub entry_size : ℕ → ℕ
entry_size type =
    cond (eqb type sht_symtab) sym_size
    (cond (eqb type sht_rela) rela_size (cond (eqb type sht_rel) rel_size (cond (eqb type sht_group) word_size (cond (eqb type sht_strtab) 1 0))))

-- "a cut last entry or an empty group"
unfoldable pub entries_ok : ℕ → ℕ → ℕ → Bool
entries_ok type size entry = cond (eqb (size % entry) 0) (cond (eqb type sht_group) (cond (eqb size 0) false true) true) false

-- "the first string, symbol, group or relocation table not excluded: offset plus size past the file's end, .."
unfoldable pub section_ok : ℕ → Header → Bool
section_ok len h =
    cond (excluded h) true
    (cond (eqb (entry_size h.kind) 0) true
    (cond (ltb len (h.offset + h.size)) false (entries_ok h.kind h.size (entry_size h.kind))))

unfoldable pub table_ok : ℕ → List ℕ → ℕ → Bool
table_ok len table i = section_ok len (header_at table i)

unfoldable pub bad_table : ℕ → List ℕ → ℕ → ℕ
bad_table len table n = first_bad (table_ok len table) 0 n

unfoldable pub file_refusal : List ℕ → Refusal
file_refusal file =
    cond (is_object file)
    (cond (headers_fit (length file) (e_shoff file) (section_count file))
    (cond (ltb (bad_table (length file) (header_table file) (section_count file)) (section_count file))
    (refused 27 (bad_table (length file) (header_table file) (section_count file)))
    (refused 0 0))
    (refused 27 0))
    (refused 26 0)
