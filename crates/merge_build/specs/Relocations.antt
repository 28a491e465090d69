-- "Of several relocation tables for a section the last counts. Only a relocation's symbol is taken."
-- Assumes nothing.
use Rattle.std.specs.Prelude.{ℕ, ◌+◌, ◌-◌, Bool, true, false, cond, List, [], ◌∷◌, eqb, leb, get_or, set, Option, None, Some}
use Rattle.byte_slices.specs.Bytes.{part}
use Rattle.elf_object.specs.Kinds.{program}
use Rattle.elf_object.specs.Rows.{link_at, first_at, count_at, section_of, relocations_at}

-- the last table that applies to a program section, its number and 1; 0 for none
unfoldable pub table_for : List ℕ → ℕ → ℕ → ℕ
table_for work n kind = cond (eqb kind program) (relocations_at work n) 0

-- the table of a cell that holds its number and 1, 0 for none
abbrev pub table_in : ℕ → Option ℕ
table_in cell = cond (eqb cell 0) None (Some (cell - 1))

-- a table names symbols of the loaded symbol table, if it links to it
unfoldable pub limit_of : List ℕ → ℕ → ℕ → ℕ → ℕ
limit_of headers table t symbols = cond (eqb (link_at headers (section_of table)) t) symbols 0

unfoldable pub relocations_of : List ℕ → List ℕ → ℕ → List ℕ
relocations_of headers contents table =
    cond (eqb table 0) [] (part contents (first_at headers (section_of table)) (count_at headers (section_of table)))

-- a symbol with an id; a cell holds the id and 1
unfoldable pub symbol_ok : List ℕ → ℕ → ℕ → Bool
symbol_ok ids limit k = cond (leb limit k) false (cond (eqb (get_or ids k 0) 0) false true)

unfoldable pub symbols_ok : List ℕ → ℕ → List ℕ → Bool
symbols_ok ids limit [] = true
symbols_ok ids limit (k ∷ ks) = cond (symbol_ok ids limit k) (symbols_ok ids limit ks) false

unfoldable pub id_in : List ℕ → ℕ → ℕ
id_in ids k = cond (eqb (get_or ids k 0) 0) 0 (get_or ids k 0 - 1)

-- the symbols' ids, from a place of the lists on
unfoldable pub append_from : List ℕ → List ℕ → ℕ → List ℕ → List ℕ
append_from ids lists at [] = lists
append_from ids lists at (k ∷ ks) = append_from ids (set lists at (id_in ids k)) (at + 1) ks
