-- Document 02, 2026-01: the rules of the merge of a file before its rows are merged. "26, [..] right after 22; 27, after 26, [..]; then 2, place 0, too few
-- lent rows".
-- Assumes nothing.
use Rattle.std.specs.Prelude.{ℕ, ◌+◌, ◌*◌, ◌%◌, Bool, not, ◌&&◌, ◌||◌, List, [], ◌∷◌, ◌++◌, eqb, ltb, length}
use Rattle.gabi.specs.File.{e_magic, elf_magic, e_class, elf_class64, e_data, elf_data2_lsb, e_type, et_rel, e_shoff, section_count, header_table, sht_group}
use Rattle.elf_file.specs.declared.Header.{Header}
use Rattle.elf_file.specs.File.{header_at}
use Rattle.elf_file.specs.Check.{excluded, entry_size}
use Rattle.elf_laws.specs.Object.{cells_of}
use Rattle.link_laws.specs.Rules.{Rule, ◌gives◌at◌, each}

-- "first four bytes or class or byte order or type not as above, or a file below 64 bytes"
abbrev pub is_no_object : List ℕ → Bool
is_no_object file =
    ltb (length file) 64
    || (not (eqb (e_magic file) elf_magic)
    || (not (eqb (e_class file) elf_class64) || (not (eqb (e_data file) elf_data2_lsb) || not (eqb (e_type file) et_rel))))

-- "the section headers (place 0)": "offset plus size past the file's end". Header 0, which may have their number, has to be there too
abbrev pub is_headers_cut : List ℕ → Bool
is_headers_cut file = not (eqb (e_shoff file) 0) && (ltb (length file) (e_shoff file + 64) || ltb (length file) (e_shoff file + section_count file * 64))

-- "a string, symbol, group or relocation table not excluded: offset plus size past the file's end, a cut last entry or an empty group"
abbrev pub is_bad_section : ℕ → Header → Bool
is_bad_section len h =
    not (excluded h)
    && (not (eqb (entry_size h.kind) 0)
    && (ltb len (h.offset + h.size)
    || (not (eqb (h.size % entry_size h.kind) 0) || (eqb h.kind sht_group && eqb h.size 0))))

abbrev pub is_bad_table : List ℕ → ℕ → Bool
is_bad_table file i = is_bad_section (length file) (header_at (header_table file) i)

abbrev pub table_rules : List ℕ → List Rule
table_rules file = each (λ i. is_bad_table file i gives 27 at i) 0 (section_count file)

-- that many cells are lent for the rows
abbrev pub file_rules : Bool → List ℕ → ℕ → List Rule
file_rules broken file cells =
    (broken gives 22 at 0)
    ∷ (is_no_object file gives 26 at 0)
    ∷ (is_headers_cut file gives 27 at 0)
    ∷ (table_rules file ++ ((ltb cells (cells_of file) gives 2 at 0) ∷ []))
