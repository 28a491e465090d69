-- Every public call on a link, and the history of a link. What a call leaves and answers is the right side of its contract. Public functions that
-- other crates use inside a call, and those on strings and on an index alone, are no calls on a link.
-- Assumes nothing.
use Rattle.gc_sections.specs.declared.Dropped.{Dropped}
use Rattle.std.specs.Prelude.{ℕ, ◌+◌, ◌≡◌, Bool, cond, List, [], ◌∷◌, ◌≢◌, eqb, ltb, length, Option, Result, Ok, Err}
use Rattle.link.specs.declared.Interned.{Interned}
use Rattle.link.specs.declared.SymbolId.{SymbolId}
use Rattle.link.specs.declared.SectionId.{SectionId}
use Rattle.link.specs.declared.cause.Refusal.{Refusal}
use Rattle.link.specs.Judge.{refused}
use Rattle.link.specs.Said.{Said, number_in, place_in}
use Rattle.interner.specs.Names.{store_of}
use Rattle.interner.specs.Calls as Names
use Rattle.interner.specs.Calls.{intern_of}
use Rattle.upcoming_symbol.specs.declared.UpcomingSymbol.{UpcomingSymbol}
use Rattle.symbols.specs.Calls as Symbols
use Rattle.symbols.specs.Add.{add_of}
use Rattle.symbols.specs.Remove.{RemoveLeft, rows_of, remove_of}
use Rattle.section_groups.specs.Group as Group
use Rattle.section_groups.specs.AddGroup as AddGroup
use Rattle.section_groups.specs.AddGroup.{state_of, add_group_of}
use Rattle.merge_stages.specs.Stages as Stages
use Rattle.merge_elf.specs.Merge as Merge
use Rattle.merge_elf.specs.Merge.{merge_of}
use Rattle.elf_laws.specs.Object as ElfFile
use Rattle.merge_file.specs.MergeFile.{FileLeft, file_head_of, merge_file_of}
use Rattle.shared_objects.specs.Load as Shared
use Rattle.shared_objects.specs.Load.{load_of}
use Rattle.archive_index.specs.Archives.{Archives}
use Rattle.archive_walk.specs.declared.Walk.{Walk}
use Rattle.gc_sections.specs.Run as Collection
use Rattle.gc_sections.specs.Run.{lists_of, run_of}
use Rattle.plain_collector.specs.Run.{plain_of}
use Rattle.symbol_laws.specs.History as History
use Rattle.symbol_laws.specs.History.{State, Entry, table, store, with_table, with_store, with_rows, run, log, noted, upcoming}
use Rattle.merge_laws.specs.Steps.{Step, log_steps}
use Rattle.merge_laws.specs.MergeSteps.{merge_steps}
use Rattle.merge_laws.specs.Calls.{Linked, linked, all_in, link_in}
use Rattle.load_laws.specs.LoadSteps.{load_steps}
use Rattle.load_laws.specs.Whole as Loads
use Rattle.link_laws.specs.Read as Read
use Rattle.link_laws.specs.Read.{ReadCall, ReadLeft, read_left, read_refusal}
pub use Rattle.link_laws.specs.Read.{view_in}
use Rattle.add_list.specs.AddList.{ListLeft, items_of, add_list_of}

-- ---- the calls, with what they are lent besides the link's own cells

pub data Call : Type 0 where
  -- one that leaves the link as it is
  reads : ReadCall → Call
  intern : List ℕ → Call
  -- lent the conversion of its section numbers
  add : List ℕ → UpcomingSymbol → Call
  -- the conversion, a list's rows, cells for ids
  add_list : List ℕ → List ℕ → List ℕ → Call
  remove : SymbolId → Call
  -- the object, cells for its sections' marks, the group's section
  add_group : Group.Object → List ℕ → ℕ → Call
  -- the object, cells for its sections' work rows and for its symbols' ids
  merge : Stages.Object → List ℕ → List ℕ → Call
  -- the file; cells for its rows, for its sections' work rows and for its symbols' ids
  merge_file : List ℕ → List ℕ → List ℕ → List ℕ → Call
  -- the library, cells for the marks that as-needed takes
  load : Shared.Input → List ℕ → Call
  -- marks of symbols, the entry symbol, work cells
  collect : List ℕ → Option SymbolId → List ℕ → Call
  -- the same, for the plain collector
  plain_collect : List ℕ → Option SymbolId → List ℕ → Call

abbrev pub resolve : Interned → Call
resolve id = reads (Read.resolve id)

abbrev pub get : SymbolId → Call
get id = reads (Read.get id)

abbrev pub get_global : Interned → Call
get_global name = reads (Read.get_global name)

abbrev pub section_symbol : SectionId → Call
section_symbol section = reads (Read.section_symbol section)

abbrev pub archive_start : ℕ → Archives → List ℕ → Call
archive_start key archives cells = reads (Read.archive_start key archives cells)

abbrev pub archive_next : Archives → List ℕ → Walk → Call
archive_next archives cells w = reads (Read.archive_next archives cells w)

abbrev pub archive_shadowed : List ℕ → List ℕ → Walk → List ℕ → Call
archive_shadowed index rows w cells = reads (Read.archive_shadowed index rows w cells)

abbrev pub matches : List ℕ → List ℕ → List ℕ → List ℕ → List ℕ → List ℕ → Walk → ℕ → Call
matches headers entries contents file index cells w e = reads (Read.matches headers entries contents file index cells w e)

abbrev pub would_define : List ℕ → List ℕ → List ℕ → List ℕ → List ℕ → Call
would_define headers entries contents file cells = reads (Read.would_define headers entries contents file cells)

-- ---- what each call leaves and answers

abbrev pub group_in : State → List ℕ → Group.State
group_in t work = state_of t.bytes t.names work t.link

-- with the marks that a load takes
abbrev pub library_in : Linked → List ℕ → Shared.All
library_in s marks =
    Shared.all_of s.table.bytes s.table.names s.table.symbols s.table.sections s.inputs s.lists marks s.table.link

abbrev pub lists_in : Linked → List ℕ → Collection.Lists
lists_in s marks = lists_of s.table.bytes s.table.names s.lists marks

-- the outcome of which its contract speaks: the answer, and every lent cell that the call may write
abbrev pub LeftBy : Call → Type 0
LeftBy (intern x) = Names.Left
LeftBy (reads k) = ReadLeft k
LeftBy (add conversion u) = Symbols.Left
LeftBy (add_list conversion adds ids) = ListLeft
LeftBy (remove id) = RemoveLeft
LeftBy (add_group o work n) = AddGroup.Left
LeftBy (merge o work ids) = Merge.Left
LeftBy (merge_file file cells work ids) = FileLeft
LeftBy (load o marks) = Shared.Left
LeftBy (collect marks entry work) = Collection.Left
LeftBy (plain_collect marks entry work) = Collection.Left

-- its contract: the outcome is this
abbrev pub call_left : (k : Call) → Linked → LeftBy k
call_left (intern x) s = intern_of (store s.table) x
call_left (reads k) s = read_left k s.table
call_left (add conversion u) s = add_of (table s.table) conversion u
call_left (add_list conversion adds ids) s = add_list_of conversion (items_of adds) (table s.table) ids
call_left (remove id) s = remove_of s.table.link (rows_of s.table.symbols s.table.sections) id
call_left (add_group o work n) s = add_group_of o (group_in s.table work) n
call_left (merge o work ids) s = merge_of o (all_in s work ids)
call_left (merge_file file cells work ids) s = merge_file_of file cells (all_in s work ids)
call_left (load o marks) s = load_of o (library_in s marks)
call_left (collect marks entry work) s = run_of s.table.link (lists_in s marks) s.table.symbols s.table.sections entry work
call_left (plain_collect marks entry work) s = plain_of s.table.link (lists_in s marks) s.table.symbols s.table.sections entry work

-- ---- number and place, as each call's own definition has them

abbrev pub refusal_by : Said → Refusal
refusal_by a = refused (number_in a) (place_in a)

-- 0 and 0 for a result
abbrev pub refusal_in : (k : Call) → LeftBy k → Refusal
refusal_in (intern x) o = refusal_by o.said
refusal_in (reads k) o = read_refusal k o
refusal_in (add conversion u) o = refusal_by o.said
refusal_in (add_list conversion adds ids) o = o.refusal
refusal_in (remove id) o = refusal_by o.said
refusal_in (add_group o work n) x = x.said
refusal_in (merge o work ids) x = x.said
refusal_in (merge_file file cells work ids) x = x.merged.said
refusal_in (load o marks) x = refusal_by x.said
refusal_in (collect marks entry work) o = refused o.said.number o.said.place
refusal_in (plain_collect marks entry work) o = refused o.said.number o.said.place

abbrev pub call_refusal : Call → Linked → Refusal
call_refusal k s = refusal_in k (call_left k s)

abbrev pub call_number : Call → Linked → ℕ
call_number k s = (call_refusal k s).number

-- ---- the link after the call; "Lookups and walks don't change a link"

abbrev tabled : Linked → State → Linked
tabled s t = linked t s.inputs s.lists

abbrev next_by : (k : Call) → Linked → LeftBy k → Linked
next_by (intern x) s o = tabled s (with_store s.table o.store)
next_by (reads k) s o = s
next_by (add conversion u) s o = tabled s (with_table s.table o.table)
next_by (add_list conversion adds ids) s o = tabled s (with_table s.table o.table)
next_by (remove id) s o = tabled s (with_rows s.table o.rows o.link)
next_by (add_group o work n) s x = tabled s (with_store s.table (store_of x.bytes x.names x.outcome.link))
next_by (merge o work ids) s x = link_in x.cells
next_by (merge_file file cells work ids) s x = link_in x.merged.cells
next_by (load o marks) s x = linked (Loads.table_in x.cells) x.cells.inputs x.cells.lists
next_by (collect marks entry work) s o = tabled s (with_rows s.table (rows_of o.symbols o.sections) o.link)
next_by (plain_collect marks entry work) s o = tabled s (with_rows s.table (rows_of o.symbols o.sections) o.link)

abbrev pub call_next : Call → Linked → Linked
call_next k s = next_by k s (call_left k s)

-- the refusal of a file that isn't read: 22, 26, 27, 2
abbrev pub file_head : List ℕ → List ℕ → Linked → Refusal
file_head file cells s = file_head_of s.table.link.broken file (length cells)

abbrev pub is_read : List ℕ → List ℕ → Linked → Bool
is_read file cells s = eqb (file_head file cells s).number 0

-- what the merge of a file writes: its rows' merge, where it is read
abbrev pub file_steps : List ℕ → List ℕ → List ℕ → List ℕ → Linked → List Step
file_steps file cells work ids s = cond (is_read file cells s) (merge_steps (ElfFile.rows_of file) (all_in s work ids)) []

-- the adds of a list that are accepted, up to the first that is refused
abbrev pub adds_up_to : List ℕ → List UpcomingSymbol → State → List History.Call
adds_up_to conversion [] t = []
adds_up_to conversion (u ∷ us) t =
    cond (eqb (History.call_number (History.add conversion u) t) 0)
    (History.add conversion u ∷ adds_up_to conversion us (History.call_next (History.add conversion u) t)) []

-- none on a broken link, and none where cells for ids are too few
abbrev pub list_adds : List ℕ → List ℕ → List ℕ → Linked → List History.Call
list_adds conversion adds ids s =
    cond s.table.link.broken []
    (cond (ltb (length ids) (length (items_of adds))) [] (adds_up_to conversion (items_of adds) s.table))

-- what a refused call that breaks nothing leaves: the adds of a list before the refused one stay
abbrev pub earlier : Call → Linked → Linked
earlier (intern x) s = s
earlier (reads k) s = s
earlier (add conversion u) s = s
earlier (add_list conversion adds ids) s = tabled s (History.run_calls (list_adds conversion adds ids s) s.table)
earlier (remove id) s = s
earlier (add_group o work n) s = s
earlier (merge o work ids) s = s
earlier (merge_file file cells work ids) s = s
earlier (load o marks) s = s
earlier (collect marks entry work) s = s
earlier (plain_collect marks entry work) s = s

-- the accepted adds that aren't local: a direct one, those of a list, those of an object, those of a library; a refused merge or load counts "with what it had
-- accepted"
abbrev pub call_notes : Call → Linked → List Entry
call_notes (intern x) s = []
call_notes (reads k) s = []
call_notes (add conversion u) s = noted (upcoming s.table conversion u) History.direct (call_left (add conversion u) s).said
call_notes (add_list conversion adds ids) s = History.log_calls (list_adds conversion adds ids s) s.table
call_notes (remove id) s = []
call_notes (add_group o work n) s = []
call_notes (merge o work ids) s = log_steps (merge_steps o (all_in s work ids)) s.table
call_notes (merge_file file cells work ids) s = log_steps (file_steps file cells work ids s) s.table
call_notes (load o marks) s = log_steps (load_steps o (library_in s marks)) s.table
call_notes (collect marks entry work) s = []
call_notes (plain_collect marks entry work) s = []

-- ---- "any sequence of calls"

abbrev pub run_calls : List Call → Linked → Linked
run_calls = run call_next call_notes

abbrev pub log_calls : List Call → Linked → List Entry
log_calls = log call_next call_notes

-- ---- "that removes nothing"

-- a collection that drops a section or removes a symbol
abbrev pub Drops : Result Dropped Refusal → Type 0
Drops (Ok d) = d.sections + d.symbols ≢ 0
Drops (Err r) = ⊥

-- an accepted remove, which is of a row that is there as long as none was removed; and such a collection
abbrev pub Removes : Call → Linked → Type 0
Removes (intern x) s = ⊥
Removes (reads k) s = ⊥
Removes (add conversion u) s = ⊥
Removes (add_list conversion adds ids) s = ⊥
Removes (remove id) s = call_number (remove id) s ≡ 0
Removes (add_group o work n) s = ⊥
Removes (merge o work ids) s = ⊥
Removes (merge_file file cells work ids) s = ⊥
Removes (load o marks) s = ⊥
Removes (collect marks entry work) s = Drops (call_left (collect marks entry work) s).answer
Removes (plain_collect marks entry work) s = Drops (call_left (plain_collect marks entry work) s).answer

abbrev pub RemovesNothing : List Call → Linked → Type 0
RemovesNothing [] s = Unit {0}
RemovesNothing (k ∷ ks) s = (Removes k s → ⊥) × RemovesNothing ks (call_next k s)
