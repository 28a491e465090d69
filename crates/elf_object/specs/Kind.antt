-- A section's kind and its number.
-- Assumes nothing.
use Rattle.std.specs.Prelude.{ℕ, cond, eqb, Result, Ok, Err}
use Rattle.elf_object.specs.Kinds.{null, program, uninitialized, symbol_table, string_table, rel, rela, group, hash, gnu_hash, dynamic_symbols, frame_header, dynamic, unknown, note}
use Rattle.elf_object.specs.declared.kind.Kind.{Kind}
use Rattle.elf_object.specs.declared.kind.Kind.TheVariants.{Null, Program, Uninitialized, SymbolTable, StringTable, Rel, Rela, Group, Hash, GnuHash, DynamicSymbols, FrameHeader, Dynamic, Unknown, Note}
use Rattle.elf_object.specs.declared.kind.NoKind.{NoKind}

abbrev pub number_of : Kind → ℕ
number_of Null = null
number_of Program = program
number_of Uninitialized = uninitialized
number_of SymbolTable = symbol_table
number_of StringTable = string_table
number_of Rel = rel
number_of Rela = rela
number_of Group = group
number_of Hash = hash
number_of GnuHash = gnu_hash
number_of DynamicSymbols = dynamic_symbols
number_of FrameHeader = frame_header
number_of Dynamic = dynamic
number_of Unknown = unknown
number_of Note = note

-- the kind of a number
abbrev pub numbered : ℕ → Result Kind NoKind
numbered n =
    cond (eqb n null) (Ok Null)
    (cond (eqb n program) (Ok Program)
    (cond (eqb n uninitialized) (Ok Uninitialized)
    (cond (eqb n symbol_table) (Ok SymbolTable)
    (cond (eqb n string_table) (Ok StringTable)
    (cond (eqb n rel) (Ok Rel)
    (cond (eqb n rela) (Ok Rela)
    (cond (eqb n group) (Ok Group)
    (cond (eqb n hash) (Ok Hash)
    (cond (eqb n gnu_hash) (Ok GnuHash)
    (cond (eqb n dynamic_symbols) (Ok DynamicSymbols)
    (cond (eqb n frame_header) (Ok FrameHeader)
    (cond (eqb n dynamic) (Ok Dynamic) (cond (eqb n unknown) (Ok Unknown) (cond (eqb n note) (Ok Note) (Err (record { 0 = n }))))))))))))))))
