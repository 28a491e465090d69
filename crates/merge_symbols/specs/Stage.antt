-- The symbol stage of a merge, symbol by symbol up to the first refusal: one that is dropped; 9; the name (2); the decision; what is written.
-- Assumes nothing.
use Rattle.std.specs.Prelude.{ℕ, zero, suc, ◌+◌, ◌≡◌, cond, List, eqb, set, Result, Ok, Err}
use Rattle.link.specs.declared.Link.{Link}
use Rattle.link.specs.declared.cause.Refusal.{Refusal}
use Rattle.strings.specs.Lookup.{Looked}
use Rattle.interner.specs.Names.{Store, store_of, keep_of}
use Rattle.symbol.specs.Codes.{file_cell, successor}
use Rattle.symbol_resolution.specs.Decision.{Decision, Refuse, Nothing, Keep, Append, Replace, Amend}
use Rattle.symbol_resolution.specs.Decide.{refusal_of}
use Rattle.symbol_resolution.specs.Apply.{Table, table_of, apply_of}
use Rattle.elf_object.specs.Rows.{rows_in, link_at, name_in, entry_name_at}
use Rattle.section_groups.specs.Filter.{dropped_at}
use Rattle.merge_symbols.specs.Plan.{Planned, View, view_of, Input, input_of, planned_of, file_after, place_of}
use Rattle.elf_object.specs.declared.Object.{Object as Lent}
use Rattle.merge_symbols.specs.declared.Symbols.{Symbols}

-- the link, and the file name's id and 1, between two symbols; number 0 as long as nothing is refused
pub record SymbolStage : Type 0 where
  pub link : Link
  pub file : ℕ
  pub number : ℕ
  pub place : ℕ

-- the lent cells that the stage writes, and what it hands on
pub record State : Type 0 where
  pub bytes : List ℕ
  pub names : List ℕ
  pub symbols : List ℕ
  pub sections : List ℕ
  pub ids : List ℕ
  pub stage : SymbolStage

abbrev pub state_of : List ℕ → List ℕ → List ℕ → List ℕ → List ℕ → SymbolStage → State
state_of b n s x w st = record { bytes = b; names = n; symbols = s; sections = x; ids = w; stage = st }

-- what it reads of the object: headers, the loaded table's entries, bytes, work rows, the section of the symbols' names
pub record Object : Type 0 where
  pub headers : List ℕ
  pub entries : List ℕ
  pub image : List ℕ
  pub work : List ℕ
  pub symbol_names : ℕ

abbrev pub object_of : List ℕ → List ℕ → List ℕ → List ℕ → ℕ → Object
object_of h e f w s = record { headers = h; entries = e; image = f; work = w; symbol_names = s }

-- as it is lent, with the section of the symbols' names: the one that the loaded table links to
abbrev pub object_in : Lent → List ℕ → ℕ → Object
object_in o work names = object_of o.headers.now o.entries.now o.image.now work names

abbrev pub input_in : Lent → List ℕ → Object
input_in o work = object_in o work (link_at o.headers.now o.table)

abbrev pub stage_of : Link → ℕ → ℕ → ℕ → SymbolStage
stage_of l file number place = record { link = l; file = file; number = number; place = place }

-- what is lent before the call, and after it, with its answer
abbrev pub state_in : Symbols → ℕ → ℕ → State
state_in s number place = state_of s.bytes.now s.names.now s.symbols.now s.sections.now s.ids.now (stage_of s.link (file_cell s.file) number place)

abbrev pub state_before : Symbols → State
state_before s = state_in s 0 0

abbrev pub state_after : Symbols → Result Unit Refusal → State
state_after s (Ok tt) = state_in s 0 0
state_after s (Err r) = state_in s r.number r.place

-- the same cells are lent
abbrev pub same_loans : Symbols → Symbols → Type 0
same_loans s t =
    (t.bytes.ghost_name ≡ s.bytes.ghost_name) × (t.names.ghost_name ≡ s.names.ghost_name) × (t.symbols.ghost_name ≡ s.symbols.ghost_name)
    × (t.sections.ghost_name ≡ s.sections.ghost_name) × (t.ids.ghost_name ≡ s.ids.ghost_name)

-- the symbol's id and 1, 0 for none
abbrev pub cell_of : Decision → ℕ → ℕ
cell_of (Refuse n) count = 0
cell_of Nothing count = 0
cell_of (Keep id) count = successor id.0
cell_of Append count = successor count
cell_of (Replace id) count = successor id.0
cell_of (Amend id) count = successor id.0

-- every cell as it was
abbrev pub refuse : State → ℕ → ℕ → State
refuse s number place =
    state_of s.bytes s.names s.symbols s.sections s.ids (stage_of s.stage.link s.stage.file number place)

-- every cell as it was but the name's
abbrev pub refuse_named : State → Store → ℕ → ℕ → State
refuse_named s k number place =
    state_of k.bytes k.names s.symbols s.sections s.ids (stage_of k.link s.stage.file number place)

-- what an accepted symbol writes beside its name: its row, and its id and 1 in its cell
pub record Accepted : Type 0 where
  pub names : List ℕ
  pub symbols : List ℕ
  pub sections : List ℕ
  pub ids : List ℕ
  pub stage : SymbolStage

abbrev pub accepted_of : List ℕ → List ℕ → List ℕ → List ℕ → SymbolStage → Accepted
accepted_of n s x d st = record { names = n; symbols = s; sections = x; ids = d; stage = st }

-- of what is lent
abbrev pub accepted_in : Symbols → Accepted
accepted_in s = accepted_of s.names.now s.symbols.now s.sections.now s.ids.now (stage_of s.link (file_cell s.file) 0 0)

abbrev pub table_in : Symbols → Table
table_in s = table_of s.names.now s.symbols.now s.sections.now s.link

abbrev pub accepting : Table → List ℕ → ℕ → Accepted
accepting t ids file = accepted_of t.names t.symbols t.sections ids (stage_of t.link file 0 0)

unfoldable pub accept_row : Table → List ℕ → Planned → ℕ → ℕ → Accepted
accept_row t ids p i file =
    accepting (apply_of t p.row p.decision) (set ids i (cell_of p.decision t.link.symbols)) (file_after file p.kind p.id)

abbrev pub accept : List ℕ → Accepted → State
accept bytes a = state_of bytes a.names a.symbols a.sections a.ids a.stage

-- the name is issued: the refusal, or the row and the symbol's cell
unfoldable pub kept_of : State → Store → Planned → ℕ → State
kept_of s k p i =
    cond (eqb (refusal_of p.decision) 0)
    (accept k.bytes (accept_row (table_of k.names s.symbols s.sections k.link) s.ids p i s.stage.file))
    (refuse_named s k (refusal_of p.decision) (place_of (refusal_of p.decision) p.id i))

-- 2 leaves "all at that element"; else the name is issued
unfoldable pub commit_of : State → List ℕ → Planned → ℕ → State
commit_of s x p i =
    cond (eqb (refusal_of p.decision) 2) (refuse s 2 i)
    (kept_of s (keep_of (store_of s.bytes s.names s.stage.link) p.id x) p i)

abbrev pub view : State → View
view s = view_of s.bytes s.names s.symbols s.sections s.stage.link

-- judged on the state as it stands
unfoldable pub symbol_named : Input → State → List ℕ → ℕ → State
symbol_named o s x i = commit_of s x (planned_of (view s) o x i s.stage.file) i

-- "symbol name missing" 9
unfoldable pub looked_of : Object → State → ℕ → Looked → State
looked_of o s i x = cond x.found (symbol_named (input_of o.entries o.work) s x.name i) (refuse s 9 i)

-- it gets no id, and nothing else of it is read or written
abbrev pub drop_symbol : State → ℕ → State
drop_symbol s i = state_of s.bytes s.names s.symbols s.sections (set s.ids i 0) (stage_of s.stage.link s.stage.file 0 0)

unfoldable pub symbol_of : Object → State → ℕ → State
symbol_of o s i =
    cond (dropped_at s.stage.link.gabi o.work o.entries i) (drop_symbol s i)
    (looked_of o s i (name_in o.headers o.image o.symbol_names (entry_name_at o.entries i)))

-- n symbols from the i-th on, up to the first refusal
unfoldable pub symbols_from : Object → ℕ → ℕ → State → State
symbols_from o zero i s = s
symbols_from o (suc n) i s =
    cond (eqb (symbol_of o s i).stage.number 0) (symbols_from o n (i + 1) (symbol_of o s i)) (symbol_of o s i)

unfoldable pub symbols_of : Object → State → State
symbols_of o s = symbols_from o (rows_in o.entries) 0 s
