-- How many rows a file has, and how many work rows its merge takes: what has to be lent for it.
-- Assumes nothing.
use Rattle.std.specs.Prelude.{ℕ, zero, suc, ◌+◌, ◌*◌, ◌-◌, ◌/◌, cond, List, eqb, ltb, leb, min, max, length, Result, Ok, Err}
use Rattle.link.specs.declared.cause.Refusal.{Refusal}
use Rattle.link.specs.Judge.{refused}
use Rattle.cells.specs.Rows.{row_width}
use Rattle.gabi.specs.File.{section_count, header_table, member_at, sht_rel, sht_rela, sht_group, rel_size, rela_size, word_size}
use Rattle.elf_object.specs.Judge.{section_bound}
use Rattle.elf_file.specs.declared.Header.{Header}
use Rattle.elf_file.specs.declared.counts.Counts.{Counts}
use Rattle.elf_file.specs.File.{header_at}
use Rattle.elf_file.specs.Check.{excluded, file_refusal}
use Rattle.elf_file.specs.Rows.{entry_count}
use Rattle.elf_file.specs.Read.{bytes_of}

-- ---- cells of contents, by what they are

-- relocations without and with an addend
unfoldable pub relocations_in : Header → ℕ
relocations_in h = cond (excluded h) 0 (cond (eqb h.kind sht_rel) (h.size / rel_size) (cond (eqb h.kind sht_rela) (h.size / rela_size) 0))

-- sections that a group lists, behind its flags
unfoldable pub listed_in : Header → ℕ
listed_in h = cond (excluded h) 0 (cond (eqb h.kind sht_group) (h.size / word_size - 1) 0)

-- of k headers from i on
unfoldable pub relocation_count : List ℕ → ℕ → ℕ → ℕ
relocation_count table i zero = 0
relocation_count table i (suc k) = relocations_in (header_at table i) + relocation_count table (i + 1) k

unfoldable pub listed_count : List ℕ → ℕ → ℕ → ℕ
listed_count table i zero = 0
listed_count table i (suc k) = listed_in (header_at table i) + listed_count table (i + 1) k

-- ---- work rows: a repeated group's sections are marked in them, there or not

-- as many as a listed section takes; a number from 65,280 on is no section's
unfoldable pub rows_to : ℕ → ℕ
rows_to section = cond (ltb section section_bound) (section + 1) 0

-- of k numbers that a group lists, from the j-th on
unfoldable pub rows_to_members : List ℕ → ℕ → ℕ → ℕ
rows_to_members group j zero = 0
rows_to_members group j (suc k) = max (rows_to (member_at group j)) (rows_to_members group (j + 1) k)

-- of the groups among k sections from i on
unfoldable pub rows_to_listed : List ℕ → List ℕ → ℕ → ℕ → ℕ
rows_to_listed file table i zero = 0
rows_to_listed file table i (suc k) =
    max (rows_to_members (bytes_of file (header_at table i)) 0 (listed_in (header_at table i))) (rows_to_listed file table (i + 1) k)

-- a row for each section that an object may have, and for all up to the last that is listed
abbrev pub work_rows_of : List ℕ → List ℕ → ℕ → ℕ
work_rows_of file table n = max (min n section_bound) (rows_to_listed file table 0 n)

-- ---- the file

abbrev pub counts_as : ℕ → ℕ → ℕ → ℕ → ℕ → Counts
counts_as sections symbols relocations listed work_rows =
    record { sections = sections; symbols = symbols; relocations = relocations; listed = listed; work_rows = work_rows }

abbrev pub counts_in : List ℕ → List ℕ → ℕ → Counts
counts_in file table n =
    counts_as n (entry_count table 0 n) (relocation_count table 0 n) (listed_count table 0 n) (work_rows_of file table n)

abbrev pub counts_of : List ℕ → Counts
counts_of file = counts_in file (header_table file) (section_count file)

-- the cells that so many rows take
abbrev pub cells_for : Counts → ℕ
cells_for c = c.sections * row_width + c.symbols * row_width + (c.relocations + c.listed)

-- the most that is counted: a cell for each byte of the file, 2^24 at least. Tables that don't overlap take a third of that
abbrev pub most_cells : ℕ → ℕ
most_cells len = max len 0x1000000

unfoldable pub within : ℕ → Counts → Result Counts Refusal
within most c = cond (leb (cells_for c) most) (Ok c) (Err (refused 2 0))

-- 26 and 27 as a read answers them; then 2 at 0, more cells than that
unfoldable pub counted_of : List ℕ → Result Counts Refusal
counted_of file =
    cond (eqb (file_refusal file).number 0) (within (most_cells (length file)) (counts_of file)) (Err (file_refusal file))
