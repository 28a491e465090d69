-- Histories of calls on a link, and the log of accepted global adds.
-- Assumes nothing.
use Rattle.std.specs.Prelude.{ℕ, ◌≡◌, cond, List, [], ◌∷◌, ◌++◌, eqb, None}
use Rattle.link.specs.Said.{Said, number_in, value_in}
use Rattle.link.specs.declared.Link.{Link}
use Rattle.link.specs.declared.Interned.{Interned}
use Rattle.link.specs.declared.SymbolId.{SymbolId}
use Rattle.interner.specs.Names.{Store, store_of, find_of, keep_of}
use Rattle.interner.specs.Calls as Names
use Rattle.symbol.specs.declared.Row.{Row}
use Rattle.upcoming_symbol.specs.declared.UpcomingSymbol.{UpcomingSymbol}
use Rattle.upcoming_symbol.specs.Upcoming.{name_of, row_of}
use Rattle.symbol_resolution.specs.Apply.{Table, table_of}
use Rattle.symbols.specs.Calls.{Left}
use Rattle.symbols.specs.Add.{empty_at, add_row_of, add_of}
use Rattle.symbols.specs.New.{NewLeft}
use Rattle.symbols.specs.Remove.{Rows, rows_of, RemoveLeft, remove_of}

-- ---- the state: every lent cell that these calls may write, and the counts

pub record State : Type 0 where
  pub bytes : List ℕ
  pub names : List ℕ
  pub symbols : List ℕ
  pub sections : List ℕ
  pub link : Link

abbrev pub table : State → Table
table s = table_of s.names s.symbols s.sections s.link

abbrev pub store : State → Store
store s = store_of s.bytes s.names s.link

abbrev pub with_table : State → Table → State
with_table s t = record { bytes = s.bytes; names = t.names; symbols = t.symbols; sections = t.sections; link = t.link }

abbrev pub with_store : State → Store → State
with_store s t = record { bytes = t.bytes; names = t.names; symbols = s.symbols; sections = s.sections; link = t.link }

abbrev pub with_rows : State → Rows → Link → State
with_rows s x l = record { bytes = s.bytes; names = s.names; symbols = x.symbols; sections = x.sections; link = l }

-- what a new table leaves
abbrev pub opened : NewLeft → State
opened n = record { bytes = n.bytes; names = n.table.names; symbols = n.table.symbols; sections = n.table.sections; link = n.table.link }

-- ---- the log: an accepted add that isn't local, the id answered to it, and the row that it would become

pub data Source : Type 0 where
  direct : Source
  object : Source
  library : Source

pub record Entry : Type 0 where
  pub name : ℕ
  pub id : ℕ
  pub row : Row
  pub from : Source

unfoldable pub noted : Row → Source → Said → List Entry
noted r from a =
    cond (eqb r.scope 0) []
    (cond (eqb (number_in a) 0) (record { name = r.name.0; id = value_in a; row = r; from = from } ∷ []) [])

-- the entries of one name, and their rows
abbrev pub only : ℕ → List Entry → List Entry
only n [] = []
only n (x ∷ xs) = cond (eqb x.name n) (x ∷ only n xs) (only n xs)

abbrev pub rows : List Entry → List Row
rows [] = []
rows (x ∷ xs) = x.row ∷ rows xs

-- ---- histories, over any calls and states

module _ {S C : Type 0} (next : C → S → S) (notes : C → S → List Entry) where
  abbrev pub run : List C → S → S
  run [] s = s
  run (k ∷ ks) s = run ks (next k s)

  abbrev pub log : List C → S → List Entry
  log [] s = []
  log (k ∷ ks) s = notes k s ++ log ks (next k s)

-- ---- the parts that calls are made of: a name issued, a row added under an issued name

pub data Part : Type 0 where
  issue : List ℕ → Part
  put : Row → Source → Part

abbrev pub put_of : State → Row → Left
put_of s r = add_row_of (table s) r None

abbrev pub id_of : State → List ℕ → Interned
id_of s x = record { 0 = find_of s.bytes s.names s.link x }

abbrev pub part_next : Part → State → State
part_next (issue x) s = with_store s (keep_of (store s) (id_of s x) x)
part_next (put r from) s = with_table s (put_of s r).table

abbrev pub part_notes : Part → State → List Entry
part_notes (issue x) s = []
part_notes (put r from) s = noted r from (put_of s r).said

abbrev pub run_parts : List Part → State → State
run_parts = run part_next part_notes

abbrev pub log_parts : List Part → State → List Entry
log_parts = log part_next part_notes

-- ---- direct calls

pub data Call : Type 0 where
  -- lent the conversion of its section numbers
  add : List ℕ → UpcomingSymbol → Call
  intern : List ℕ → Call
  remove : SymbolId → Call

-- the row that an upcoming symbol would become
abbrev pub upcoming : State → List ℕ → UpcomingSymbol → Row
upcoming s conversion u = row_of s.link.gabi conversion u (empty_at s.names (name_of u))

abbrev pub add_to : State → List ℕ → UpcomingSymbol → Left
add_to s conversion u = add_of (table s) conversion u

abbrev pub intern_in : State → List ℕ → Names.Left
intern_in s x = Names.intern_of (store s) x

abbrev pub remove_from : State → SymbolId → RemoveLeft
remove_from s id = remove_of s.link (rows_of s.symbols s.sections) id

abbrev pub call_next : Call → State → State
call_next (add conversion u) s = with_table s (add_to s conversion u).table
call_next (intern x) s = with_store s (intern_in s x).store
call_next (remove id) s = with_rows s (remove_from s id).rows (remove_from s id).link

-- the number that the call answers: 0, or the refusal's
abbrev pub call_number : Call → State → ℕ
call_number (add conversion u) s = number_in (add_to s conversion u).said
call_number (intern x) s = number_in (intern_in s x).said
call_number (remove id) s = number_in (remove_from s id).said

abbrev pub call_notes : Call → State → List Entry
call_notes (add conversion u) s = noted (upcoming s conversion u) direct (add_to s conversion u).said
call_notes (intern x) s = []
call_notes (remove id) s = []

abbrev pub run_calls : List Call → State → State
run_calls = run call_next call_notes

abbrev pub log_calls : List Call → State → List Entry
log_calls = log call_next call_notes

-- "any sequence of calls that removes nothing": a remove in it is refused
abbrev pub Removes : Call → State → Type 0
Removes (add conversion u) s = ⊥
Removes (intern x) s = ⊥
Removes (remove id) s = number_in (remove_from s id).said ≡ 0

abbrev pub RemovesNothing : List Call → State → Type 0
RemovesNothing [] s = Unit {0}
RemovesNothing (k ∷ ks) s = (Removes k s → ⊥) × RemovesNothing ks (call_next k s)
