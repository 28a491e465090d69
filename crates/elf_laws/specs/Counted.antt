-- What has to be lent for a file: cells for its rows, and work rows for its merge.
-- Assumes nothing.
use Rattle.std.specs.Prelude.{ℕ, ◌+◌, ◌*◌, ◌/◌, ◌<◌, ◌≡◌, false, List}
use Rattle.gabi.specs.File.{section_count, header_table, word_at, sht_group}
use Rattle.elf_file.specs.declared.counts.Counts.{Counts}
use Rattle.elf_file.specs.File.{header_at}
use Rattle.elf_file.specs.Check.{excluded}
use Rattle.elf_file.specs.Read.{bytes_of}

-- eight cells for a section and for a symbol, one for a relocation and for a section that a group lists
abbrev pub taken : Counts → ℕ
taken c = 8 * c.sections + 8 * c.symbols + c.relocations + c.listed

-- some group of the file, not excluded, has the number s among its words, of which the first are the flags
pub record IsListed (file : List ℕ) (s : ℕ) : Type 0 where
  pub section : ℕ
  pub place : ℕ
  pub there : section < section_count file
  pub is_group : (header_at (header_table file) section).kind ≡ sht_group
  pub is_loaded : excluded (header_at (header_table file) section) ≡ false
  pub behind : 0 < place
  pub inside : place < (header_at (header_table file) section).size / 4
  pub is : s ≡ word_at (bytes_of file (header_at (header_table file) section)) (place * 4)
