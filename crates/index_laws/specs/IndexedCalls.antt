-- The calls on a link with an index beside its rows: each is the link's own call, behind which the rows that it appended get their names' places. The
-- old layout is the link without the index, and its calls are those of link_laws.
-- Assumes nothing.
use Rattle.std.specs.Prelude.{Bool, true, false, cond, List, [], ◌∷◌, eqb, Err}
use Rattle.link.specs.declared.Interned.{Interned}
use Rattle.link.specs.declared.cause.Refusal.{Refusal}
use Rattle.link.specs.Judge.{none}
use Rattle.link.specs.Said.{refusing}
use Rattle.symbols.specs.Calls.{left}
use Rattle.add_list.specs.AddList.{list_left}
use Rattle.merge_elf.specs.Merge.{leave}
use Rattle.merge_file.specs.MergeFile.{unread}
use Rattle.shared_objects.specs.Load as Shared
use Rattle.symbol_laws.specs.History.{table}
use Rattle.merge_laws.specs.Calls.{Linked, all_in}
use Rattle.link_laws.specs.Calls.{Call, intern, add, remove, add_group, merge, merge_file, load, collect, plain_collect, reads, add_list, library_in}
use Rattle.link_laws.specs.Calls.{LeftBy, call_left, call_next}
use Rattle.name_index.specs.Index.{Index}
use Rattle.indexed_table.specs.declared.lookup.LookedUp.{LookedUp}
use Rattle.indexed_table.specs.Indexed.{change_index, caught_up}
use Rattle.indexed_table.specs.Lookup.{get_global_of}
use Rattle.index_laws.specs.Listed.{rows_at}

pub record Indexed : Type 0 where
  pub link : Linked
  pub index : Index

abbrev pub indexed : Linked → Index → Indexed
indexed s i = record { link = s; index = i }

-- the calls that may append a row; they check the index's count
abbrev pub appends : Call → Bool
appends (intern x) = false
appends (reads k) = false
appends (add conversion u) = true
appends (add_list conversion adds ids) = true
appends (remove id) = false
appends (add_group o work n) = false
appends (merge o work ids) = true
appends (merge_file file cells work ids) = true
appends (load o marks) = true
appends (collect marks entry work) = false
appends (plain_collect marks entry work) = false

-- refused there: the call changes nothing
abbrev pub stopped_by : (k : Call) → Linked → Refusal → LeftBy k
stopped_by (intern x) s r = call_left (intern x) s
stopped_by (reads k) s r = call_left (reads k) s
stopped_by (add conversion u) s r = left (table s.table) (refusing r)
stopped_by (add_list conversion adds ids) s r = list_left (table s.table) ids r 0
stopped_by (remove id) s r = call_left (remove id) s
stopped_by (add_group o work n) s r = call_left (add_group o work n) s
stopped_by (merge o work ids) s r = leave (all_in s work ids) s.table.link (Err r)
stopped_by (merge_file file cells work ids) s r = unread cells (all_in s work ids) r
stopped_by (load o marks) s r = Shared.left (library_in s marks) (Err r)
stopped_by (collect marks entry work) s r = call_left (collect marks entry work) s
stopped_by (plain_collect marks entry work) s r = call_left (plain_collect marks entry work) s

abbrev pub index_refusal : Call → Indexed → Refusal
index_refusal k x = cond (appends k) (change_index x.link.table.link x.index) none

-- what a call leaves and answers: of the old layout's kind
abbrev pub indexed_left : (k : Call) → Indexed → LeftBy k
indexed_left k x = cond (eqb (index_refusal k x).number 0) (call_left k x.link) (stopped_by k x.link (index_refusal k x))

abbrev pub linked_after : Call → Indexed → Linked
linked_after k x = cond (eqb (index_refusal k x).number 0) (call_next k x.link) x.link

-- the link, and the index with the rows that are new
abbrev pub indexed_next : Call → Indexed → Indexed
indexed_next k x =
    indexed (linked_after k x)
    (caught_up (rows_at (linked_after k x).table) x.index x.link.table.link.symbols (linked_after k x).table.link.symbols)

abbrev pub run_indexed : List Call → Indexed → Indexed
run_indexed [] x = x
run_indexed (k ∷ ks) x = run_indexed ks (indexed_next k x)

-- the lookup by name, which tells the places read
abbrev pub looked_up : Indexed → Interned → LookedUp
looked_up x name = get_global_of x.link.table.link (rows_at x.link.table) x.index name
