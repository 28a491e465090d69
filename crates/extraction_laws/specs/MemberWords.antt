-- An archive member's symbols in document 01's words: those of every symbol table, each with its name where that isn't missing.
-- Assumes nothing.
use Rattle.std.specs.Prelude.{ℕ, zero, suc, ◌+◌, Bool, cond, ◌&&◌, ◌||◌, List, [], ◌∷◌, ◌++◌}
use Rattle.gabi.specs.StringTable.{has_name, name_at}
use Rattle.gabi.specs.Archive.{Named}
use Rattle.symbol_laws.specs.ObjectWords.{sections_in, symbol_table, string_table, dynamic_symbols, has_kind, link_of, strings_of, entries_of, entries_in, entry_name, entry}

-- the n symbols from i on of a table, by whether it has a string section and that section's bytes
unfoldable pub named_from : Bool → List ℕ → List ℕ → ℕ → ℕ → List Named
named_from there strings table i zero = []
named_from there strings table i (suc n) =
    cond (there && has_name strings (entry_name table i))
    (record { name = name_at strings (entry_name table i); symbol = entry table i } ∷ named_from there strings table (i + 1) n)
    (named_from there strings table (i + 1) n)

-- the section that table n links to is a string section, and its strings
abbrev pub has_strings : List ℕ → ℕ → Bool
has_strings headers n = has_kind headers (link_of headers n) string_table

abbrev pub strings_for : List ℕ → List ℕ → ℕ → List ℕ
strings_for headers file n = strings_of headers file (has_strings headers n) (link_of headers n)

abbrev pub table_from : List ℕ → List ℕ → List ℕ → ℕ → List Named
table_from headers entries file n =
    named_from (has_strings headers n) (strings_for headers file n) (entries_of headers entries n) 0 (entries_in (entries_of headers entries n))

abbrev pub has_symbols : List ℕ → ℕ → Bool
has_symbols headers n = has_kind headers n symbol_table || has_kind headers n dynamic_symbols

-- of the m sections from n on
unfoldable pub symbols_from : List ℕ → List ℕ → List ℕ → ℕ → ℕ → List Named
symbols_from headers entries file n zero = []
symbols_from headers entries file n (suc m) =
    cond (has_symbols headers n) (table_from headers entries file n) []
    ++ symbols_from headers entries file (n + 1) m

unfoldable pub symbols_of : List ℕ → List ℕ → List ℕ → List Named
symbols_of headers entries file = symbols_from headers entries file 0 (sections_in headers)
