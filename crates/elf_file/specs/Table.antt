-- The tables that are read of a file: what their sections' types say.
-- Assumes nothing.
use Rattle.std.specs.Prelude.{ℕ, cond, eqb, Option, Some, None}
use Rattle.gabi.specs.File.{sht_symtab, sht_strtab, sht_rela, sht_rel, sht_group}
use Rattle.elf_file.specs.declared.Header.{Header}
use Rattle.elf_file.specs.declared.table.Table.{Table}
use Rattle.elf_file.specs.declared.table.Table.TheVariants.{Symbols, Strings, Rela, Rel, Group}
use Rattle.elf_file.specs.Check.{excluded}

abbrev pub type_of : Table → ℕ
type_of Symbols = sht_symtab
type_of Strings = sht_strtab
type_of Rela = sht_rela
type_of Rel = sht_rel
type_of Group = sht_group

unfoldable pub typed : ℕ → Option Table
typed type =
    cond (eqb type sht_symtab) (Some Symbols)
    (cond (eqb type sht_strtab) (Some Strings)
    (cond (eqb type sht_rela) (Some Rela) (cond (eqb type sht_rel) (Some Rel) (cond (eqb type sht_group) (Some Group) None))))

unfoldable pub table_of : Header → Option Table
table_of h = cond (excluded h) None (typed h.kind)
