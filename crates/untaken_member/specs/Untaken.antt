-- Which symbols of a member that was not taken would have defined a name, had it been: each definition that the row which holds its name gives way to. An
-- undefined row gives way to any definition, a weak definition to a strong one and to a common, a common to a strong definition that is no common. A symbol
-- is judged by its own entry. Which sections are excluded and which groups are repeated isn't asked, as at admission.
-- Assumes nothing.
use Rattle.std.specs.Prelude.{ℕ, zero, suc, ◌+◌, ◌/◌, Bool, true, false, not, cond, ◌&&◌, ◌||◌, List, [], ◌∷◌, eqb, ltb, length, Option, Some, None, Result, Ok, Err}
use Rattle.std.proofs.lemmas.List.Edits.{sets}
use Rattle.link.specs.declared.SymbolId.{SymbolId}
use Rattle.link.specs.declared.cause.Refusal.{Refusal}
use Rattle.link.specs.Judge.{refused}
use Rattle.strings.specs.Lookup.{Looked}
use Rattle.symbol.specs.Row.{scope_at, kind_at}
use Rattle.symbol.specs.Layout.{common_kind}
use Rattle.symbol_resolution.specs.declared.rows.Holder.{Holder}
use Rattle.symbol_resolution.specs.declared.rows.Holder.TheVariants.{Unissued, Nobody, Removed, Known}
use Rattle.symbol_resolution.specs.RowsUndefined.{undefined_row}
use Rattle.symbol_resolution.specs.Decide.{weak_of}
use Rattle.gabi.specs.SymbolTable.{stb_global, stb_weak, stt_file, shn_undef, shn_common}
use Rattle.upcoming_symbol.specs.declared.ElfSymbol.{ElfSymbol}
use Rattle.elf_object.specs.Kinds.{symbol_table}
use Rattle.elf_object.specs.Rows.{rows_in, is_loaded, link_at, name_in, section_of, table_entries, entry_name_at, elf_at}
use Rattle.elf_object.specs.Judge.{judge_of}
use Rattle.archive_walk.specs.Look.{Table, judge_table, name_holder}

-- ---- the symbol table that a merge loads

-- among the first n sections the last that isn't excluded, its number and 1, 0 for none; of two a merge refuses the second
unfoldable pub table_below : List ℕ → ℕ → ℕ
table_below headers zero = 0
table_below headers (suc n) = cond (is_loaded headers n symbol_table) (n + 1) (table_below headers n)

abbrev pub cell_of : Option ℕ → ℕ
cell_of None = 0
cell_of (Some n) = n + 1

-- its symbols, and the string section with their names
pub record Symbols : Type 0 where
  pub headers : List ℕ
  pub image : List ℕ
  pub entries : List ℕ
  pub names : ℕ

abbrev pub symbols_of : List ℕ → List ℕ → List ℕ → ℕ → Symbols
symbols_of headers image entries names = record { headers = headers; image = image; entries = entries; names = names }

abbrev pub tabled_of : List ℕ → List ℕ → List ℕ → ℕ → Symbols
tabled_of headers entries image table = symbols_of headers image (table_entries headers entries table) (link_at headers (section_of table))

unfoldable pub loaded_of : List ℕ → List ℕ → List ℕ → Symbols
loaded_of headers entries image = tabled_of headers entries image (table_below headers (rows_in headers))

-- ---- a symbol, and the row that holds its name

-- a definition, global or weak; a file symbol, whatever its binding, becomes no row
unfoldable pub defines : ElfSymbol → Bool
defines e = not (eqb e.section shn_undef) && not (eqb e.kind stt_file) && (eqb e.binding stb_global || eqb e.binding stb_weak)

unfoldable pub is_common : ElfSymbol → Bool
is_common e = eqb e.section shn_common

-- strong, and no common, whose binding doesn't count
unfoldable pub is_strong : ElfSymbol → Bool
is_strong e = eqb e.binding stb_global && not (is_common e)

-- the row gives way to this definition
unfoldable pub gives_way : List ℕ → SymbolId → ElfSymbol → Bool
gives_way symbols id e =
    cond (undefined_row symbols id) true
    (cond (eqb (kind_at symbols id.0) common_kind) (is_strong e) (weak_of (scope_at symbols id.0) && (is_common e || is_strong e)))

abbrev pub if_told : Bool → SymbolId → Option SymbolId
if_told true id = Some id
if_told false id = None

-- of a name without a row, or whose row was removed, nothing is told
abbrev pub told_holder : List ℕ → ElfSymbol → Holder → Option SymbolId
told_holder symbols e Unissued = None
told_holder symbols e Nobody = None
told_holder symbols e Removed = None
told_holder symbols e (Known id) = if_told (gives_way symbols id e) id

-- nor of a symbol whose name is missing
unfoldable pub told_name : Table → ElfSymbol → Looked → Option SymbolId
told_name t e x = cond (x.found && defines e) (told_holder t.symbols e (name_holder t x.name)) None

-- symbol i: the row that it would have taken over
unfoldable pub told_at : Symbols → Table → ℕ → Option SymbolId
told_at o t i = told_name t (elf_at o.entries i) (name_in o.headers o.image o.names (entry_name_at o.entries i))

-- ---- the call

abbrev pub with_told : ℕ → Option SymbolId → List ℕ → List ℕ
with_told i None rest = rest
with_told i (Some id) rest = i ∷ id.0 ∷ rest

-- of n symbols from the i-th on, in their order: of each that is told its number, and the row's id
unfoldable pub told_from : (ℕ → Option SymbolId) → ℕ → ℕ → List ℕ
told_from told i zero = []
told_from told i (suc n) = with_told i (told i) (told_from told (i + 1) n)

-- the lent cells, and the answer: how many symbols are told
pub record Left : Type 0 where
  pub cells : List ℕ
  pub answer : Result ℕ Refusal

abbrev pub left : List ℕ → Result ℕ Refusal → Left
left c a = record { cells = c; answer = a }

-- pairs in the first cells
abbrev pub listed : List ℕ → List ℕ → Left
listed c xs = left (sets c 0 xs) (Ok (length xs / 2))

unfoldable pub told_of : Symbols → Table → List ℕ → Left
told_of o t c = listed c (told_from (told_at o t) 0 (rows_in o.entries))

-- fewer than two cells for each symbol of the table give 2 at 0
unfoldable pub roomed_of : Symbols → Table → List ℕ → Left
roomed_of o t c = cond (ltb (length c / 2) (rows_in o.entries)) (left c (Err (refused 2 0))) (told_of o t c)

-- 1 for the link's counts, then at the first row of the object that is out of range
unfoldable pub head_of : List ℕ → List ℕ → List ℕ → List ℕ → Table → Refusal
head_of headers entries contents image t =
    cond (eqb (judge_table t).number 0) (judge_of headers entries (length contents) (length image)) (judge_table t)

unfoldable pub would_of : List ℕ → List ℕ → List ℕ → List ℕ → Table → List ℕ → Left
would_of headers entries contents image t c =
    cond (eqb (head_of headers entries contents image t).number 0) (roomed_of (loaded_of headers entries image) t c)
    (left c (Err (head_of headers entries contents image t)))
