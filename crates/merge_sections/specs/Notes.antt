-- "Of several relocation tables for a section the last counts"; and sections that symbols name although they aren't there.
-- Assumes nothing.
use Rattle.std.specs.Prelude.{ℕ, zero, suc, ◌+◌, Bool, true, cond, List, leb}
use Rattle.symbol.specs.Codes.{successor}
use Rattle.elf_object.specs.Kinds.{rel, rela}
use Rattle.elf_object.specs.Rows.{rows_in, info_at, is_loaded, section_at, with_relocations, nothing}
use Rattle.merge_sections.specs.Reserve.{note_of}

-- a step for each of k rows from the i-th on
unfoldable pub each_from : (List ℕ → ℕ → List ℕ) → ℕ → ℕ → List ℕ → List ℕ
each_from step zero i work = work
each_from step (suc k) i work = each_from step k (i + 1) (step work i)

-- a relocation table that isn't excluded
unfoldable pub is_table : List ℕ → ℕ → Bool
is_table headers t = cond (is_loaded headers t rel) true (is_loaded headers t rela)

-- a table is noted at the section that it applies to, if the object has that one
unfoldable pub note_table_of : List ℕ → List ℕ → ℕ → List ℕ
note_table_of headers work t =
    cond (leb (rows_in headers) (info_at headers t)) work
    (cond (is_table headers t) (with_relocations work (info_at headers t) (successor t)) work)

unfoldable pub note_tables_of : List ℕ → List ℕ → List ℕ
note_tables_of headers work = each_from (note_table_of headers) (rows_in headers) 0 work

-- a section number at or past the object's sections has no conversion and no mark
unfoldable pub clear_one_of : ℕ → List ℕ → List ℕ → ℕ → List ℕ
clear_one_of rows entries work i = cond (leb rows (section_at entries i)) (note_of work (section_at entries i) nothing) work

unfoldable pub clear_all_of : ℕ → List ℕ → List ℕ → List ℕ
clear_all_of rows entries work = each_from (clear_one_of rows entries) (rows_in entries) 0 work
