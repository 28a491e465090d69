-- What the string tables of an object say of the names of its symbols and sections.
-- Assumes nothing.
use Prim.Native.Nat.{ℕ}
use Rattle.strings.specs.Lookup.{Looked}
use Rattle.elf_object.specs.Rows as Elf
use Rattle.elf_object.specs.Rows.{name_in, name_offset_at}
use Rattle.merge_symbols.specs.Stage as Symbols
use Rattle.merge_build.specs.Build as Build

-- what the string table says of symbol i's name
abbrev pub symbol_name : Symbols.Object → ℕ → Looked
symbol_name o i = name_in o.headers o.image o.symbol_names (Elf.field o.entries i 0)

-- what the string table says of section n's name
abbrev pub section_name : Build.Object → ℕ → Looked
section_name o n = name_in o.headers o.image o.section_names (name_offset_at o.headers n)
