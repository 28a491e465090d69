-- Words for what stands in an object, and 1 for its rows: "22 comes first, then 1 (sections, symbols, then the rest)".
-- Assumes nothing.
use Rattle.std.specs.Prelude.{ℕ, ◌+◌, ◌*◌, ◌/◌, ◌%◌, Bool, not, ◌&&◌, ◌||◌, List, ◌++◌, eqb, ltb, get_or, length}
use Rattle.byte_slices.specs.Bytes.{part}
use Rattle.gabi.specs.StringTable.{has_name, name_at}
use Rattle.upcoming_symbol.specs.declared.ElfSymbol.{ElfSymbol}
use Rattle.link_laws.specs.Rules.{Rule, ◌gives◌at◌, each}
use Rattle.link_laws.specs.TableRules.{is_outside_elf}

-- a field of a row
abbrev pub cell_at : List ℕ → ℕ → ℕ → ℕ
cell_at rows n f = get_or rows (n * 8 + f) 0

-- a section's header
abbrev pub kind_at : List ℕ → ℕ → ℕ
kind_at headers n = cell_at headers n 0

abbrev pub name_offset : List ℕ → ℕ → ℕ
name_offset headers n = cell_at headers n 1

-- 1 exclude, 2 retain, 4 read, 8 COMDAT
abbrev pub flags_at : List ℕ → ℕ → ℕ
flags_at headers n = cell_at headers n 2

abbrev pub link_at : List ℕ → ℕ → ℕ
link_at headers n = cell_at headers n 3

-- the section that a relocation table applies to; a group's signature symbol
abbrev pub info_at : List ℕ → ℕ → ℕ
info_at headers n = cell_at headers n 4

-- where its contents start in their list, and how many they are
abbrev pub first_at : List ℕ → ℕ → ℕ
first_at headers n = cell_at headers n 5

abbrev pub count_at : List ℕ → ℕ → ℕ
count_at headers n = cell_at headers n 6

-- a symbol's entry
abbrev pub symbol_name : List ℕ → ℕ → ℕ
symbol_name entries i = cell_at entries i 0

abbrev pub binding_at : List ℕ → ℕ → ℕ
binding_at entries i = cell_at entries i 1

abbrev pub type_at : List ℕ → ℕ → ℕ
type_at entries i = cell_at entries i 2

abbrev pub visibility_at : List ℕ → ℕ → ℕ
visibility_at entries i = cell_at entries i 3

abbrev pub section_at : List ℕ → ℕ → ℕ
section_at entries i = cell_at entries i 4

abbrev pub value_at : List ℕ → ℕ → ℕ
value_at entries i = cell_at entries i 5

abbrev pub size_at : List ℕ → ℕ → ℕ
size_at entries i = cell_at entries i 6

abbrev pub is_excluded : List ℕ → ℕ → Bool
is_excluded headers n = eqb (flags_at headers n % 2) 1

-- "Excluded sections vanish first"
abbrev pub is_kind : List ℕ → ℕ → ℕ → Bool
is_kind headers n k = not (is_excluded headers n) && eqb (kind_at headers n) k

-- and the object has it
abbrev pub is_section : List ℕ → ℕ → ℕ → Bool
is_section headers n k = ltb n (length headers / 8) && is_kind headers n k

abbrev pub is_comdat : List ℕ → ℕ → Bool
is_comdat headers n = not (eqb (flags_at headers n / 8 % 2) 0)

-- ---- names

-- "A name starts at an offset below the string table's length and runs from there [..] to the next zero byte; otherwise, or if its string section isn't
-- loaded, it is missing"; document 02, 2026-04: in a table of length 0 "Offset 0 there gives the empty name"
abbrev pub strings_in : List ℕ → List ℕ → ℕ → List ℕ
strings_in headers file n = part file (first_at headers n) (count_at headers n)

abbrev pub is_named : List ℕ → List ℕ → ℕ → ℕ → Bool
is_named headers file n offset = is_section headers n 4 && has_name (strings_in headers file n) offset

abbrev pub name_in : List ℕ → List ℕ → ℕ → ℕ → List ℕ
name_in headers file n offset = name_at (strings_in headers file n) offset

-- ---- 1

-- what a section's first and count name isn't all there: of symbols, of bytes, of numbers
abbrev pub is_cut : ℕ → ℕ → ℕ → ℕ → ℕ → Bool
is_cut kind end entries contents file =
    (eqb kind 3 || eqb kind 10) && ltb entries end
    || eqb kind 4 && ltb file end
    || (eqb kind 5 || eqb kind 6 || eqb kind 7) && ltb contents end

abbrev pub entry_at : List ℕ → ℕ → ElfSymbol
entry_at entries i =
    record {
      binding = binding_at entries i;
      kind = type_at entries i;
      visibility = visibility_at entries i;
      section = section_at entries i;
      value = value_at entries i;
      size = size_at entries i;
    }

-- "Symbol rows [..] to 65,535"
abbrev pub is_bad_entry : List ℕ → ℕ → Bool
is_bad_entry entries i = not (ltb i 65535) || is_outside_elf (entry_at entries i)

abbrev pub entry_rules : List ℕ → List Rule
entry_rules entries = each (λ i. is_bad_entry entries i gives 1 at i) 0 (length entries / 8)

module _ (headers entries contents file : List ℕ) where
  -- "sections of an object to 65,280", "other numbers and kinds give 1": kinds to 14, four flags
  abbrev pub is_bad_header : ℕ → Bool
  is_bad_header n =
      not (ltb n 65280) || ltb 14 (kind_at headers n) || ltb 15 (flags_at headers n)
      || is_cut (kind_at headers n) (first_at headers n + count_at headers n) (length entries / 8) (length contents) (length file)

  abbrev pub header_rules : List Rule
  header_rules = each (λ n. is_bad_header n gives 1 at n) 0 (length headers / 8)

  abbrev pub object_rules : List Rule
  object_rules = header_rules ++ entry_rules entries
