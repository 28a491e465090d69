-- An object's symbols as the gABI's: those of every symbol table, with their names, where these aren't missing. Admission over them.
-- Assumes nothing.
use Rattle.std.specs.Prelude.{ℕ, zero, suc, ◌+◌, Bool, true, false, cond, ◌&&◌, List, [], ◌∷◌, ◌++◌}
use Rattle.gabi.specs.SymbolTable.{Sym, is_global}
use Rattle.gabi.specs.Archive.{Named, offers}
use Rattle.strings.specs.Lookup.{Looked}
use Rattle.elf_object.specs.Rows.{rows_in, field, link_at, table_entries, elf_at}
use Rattle.object_requirement.specs.Matches.{name_anywhere, is_table}
use Rattle.symbol_laws.specs.Gabi.{sym_of}
use Rattle.extraction_laws.specs.Some.{some}

unfoldable pub with_name : Looked → Sym → List Named → List Named
with_name x s rest = cond x.found (record { name = x.name; symbol = s } ∷ rest) rest

-- of a table whose names are in string section `names`, the n rows from i on
unfoldable pub rows_named : List ℕ → List ℕ → ℕ → List ℕ → ℕ → ℕ → List Named
rows_named headers file names symbols i zero = []
rows_named headers file names symbols i (suc n) =
    with_name (name_anywhere headers file names (field symbols i 0)) (sym_of (elf_at symbols i)) (rows_named headers file names symbols (i + 1) n)

unfoldable pub section_named : List ℕ → List ℕ → List ℕ → ℕ → List Named
section_named headers entries file n =
    cond (is_table headers n)
    (rows_named headers file (link_at headers n) (table_entries headers entries (n + 1)) 0 (rows_in (table_entries headers entries (n + 1)))) []

-- of the m sections from n on
unfoldable pub sections_named : List ℕ → List ℕ → List ℕ → ℕ → ℕ → List Named
sections_named headers entries file n zero = []
sections_named headers entries file n (suc m) = section_named headers entries file n ++ sections_named headers entries file (n + 1) m

unfoldable pub member_of : List ℕ → List ℕ → List ℕ → List Named
member_of headers entries file = sections_named headers entries file 0 (rows_in headers)

-- the symbols that may admit their member: those of binding 1, defined or not; in the gABI's profile the gABI's: definitions, global or weak
abbrev pub admitting : Bool → Sym → Bool
admitting false s = is_global s
admitting true s = offers s

-- some such symbol bears a name of which f holds
abbrev pub admits_in : Bool → (List ℕ → Bool) → List Named → Bool
admits_in gabi f member = some (λ e. admitting gabi e.symbol && f e.name) member

abbrev pub admits : (List ℕ → Bool) → List Named → Bool
admits f member = admits_in false f member
