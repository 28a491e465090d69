-- "that its contract admits no second outcome is proved" (document 01, acceptance a). What a caller sees of a call is its result and every cell that it
-- lent to be written (`Exit`); its contract (`Meets`) is the predicate that stands in the `ensures`, from the crate that defines the call. Two exits
-- that meet it are equal: the builders lose nothing.
-- Assumes nothing.
use Rattle.link.specs.declared.cause.Refusal.{Refusal}
use Rattle.symbol.specs.declared.Symbol.{Symbol}
use Rattle.link.specs.declared.SymbolId.{SymbolId}
use Rattle.std.specs.Prelude.{ℕ, List, Option, Result, Bool}
use denote.Triple.Both.{Both}
use Rattle.interner.specs.Outcome as Interner
use Rattle.interner.specs.Calls as Names
use Rattle.interner.specs.Contract.{ResolveExit, InternMeets, ResolveMeets}
use Rattle.interner.specs.Contract as Interning
use Rattle.symbols.specs.Outcome as Symbols
use Rattle.symbols.specs.Calls as Calls
use Rattle.symbols.specs.Remove.{rows_of, remove_outcome}
use Rattle.symbols.specs.Contract.{NewExit, AddExit, AddMeets, RemoveExit, RemoveMeets, GetMeets, GetGlobalMeets, SectionSymbolMeets}
use Rattle.section_groups.specs.declared.alone.Outcome as Group
use Rattle.section_groups.specs.AddGroup as AddGroup
use Rattle.section_groups.specs.AloneContract as Grouping
use Rattle.section_groups.specs.AloneContract.{GroupMeets}
use Rattle.merge_elf.specs.declared.Outcome as Merge
use Rattle.merge_elf.specs.Merge as Merging
use Rattle.merge_stages.specs.Stages as Merges
use Rattle.merge_elf.specs.Contract.{MergeMeets}
use Rattle.merge_file.specs.MergeFile.{file_left}
use Rattle.merge_file.specs.Contract.{MergeFileMeets}
use Rattle.shared_objects.specs.declared.Outcome as Shared
use Rattle.shared_objects.specs.Load as Loading
use Rattle.shared_objects.specs.Contract.{LoadMeets}
use Rattle.archive_walk.specs.Walk as Archive
use Rattle.archive_walk.specs.Contract.{StartExit, StartMeets, NextExit, NextMeets}
use Rattle.shadowed_members.specs.Shadowed as Shadowed
use Rattle.shadowed_members.specs.Contract.{ShadowedExit, ShadowedMeets}
use Rattle.untaken_member.specs.Untaken as Untaken
use Rattle.untaken_member.specs.Contract.{WouldExit, WouldMeets}
use Rattle.object_requirement.specs.Contract.{MatchesMeets}
use Rattle.gc_sections.specs.declared.Outcome as Collection
use Rattle.gc_sections.specs.Run as Collecting
use Rattle.gc_sections.specs.Contract as Collects
use Rattle.gc_sections.specs.Contract.{RunMeets}
use Rattle.symbol_laws.specs.History.{table, store}
use Rattle.merge_laws.specs.Calls.{Linked}
use Rattle.link_laws.specs.Read as Read
use Rattle.link_laws.specs.Calls.{Call, intern, add, remove, add_group, merge, merge_file, load, collect, plain_collect, LeftBy, view_in, group_in, lists_in, reads, add_list}
use Rattle.plain_collector.specs.Contract.{PlainMeets}
use Rattle.add_list.specs.Contract.{ListExit, ListMeets, listed}
use Rattle.add_list.specs.Listed.{Listed}

-- ---- what a caller sees: the lent cells at exit, and the result

pub record MergeExit : Type 0 where
  pub cells : Merges.Cells
  pub result : Merge.Outcome

-- and the cells for a file's rows
pub record FileExit : Type 0 where
  pub rows : List ℕ
  pub merged : MergeExit

pub record LoadExit : Type 0 where
  pub cells : Loading.Cells
  pub result : Shared.Outcome

abbrev pub Exit : Call → Type 0
Exit (intern x) = Interning.Exit
Exit (reads (Read.resolve id)) = ResolveExit
Exit (add conversion u) = AddExit
Exit (add_list conversion adds ids) = ListExit
Exit (remove id) = RemoveExit
Exit (reads (Read.get id)) = (Result Symbol Refusal)
Exit (reads (Read.get_global name)) = (Result Symbol Refusal)
Exit (reads (Read.section_symbol section)) = (Option SymbolId)
Exit (add_group o work n) = Grouping.Exit
Exit (merge o work ids) = MergeExit
Exit (merge_file file cells work ids) = FileExit
Exit (load o marks) = LoadExit
Exit (reads (Read.archive_start key archives cells)) = StartExit
Exit (reads (Read.archive_next archives cells w)) = NextExit
Exit (reads (Read.archive_shadowed index rows w cells)) = ShadowedExit
Exit (reads (Read.matches headers entries contents file index cells w e)) = (Result Bool Refusal)
Exit (reads (Read.would_define headers entries contents file cells)) = WouldExit
Exit (collect marks entry work) = Collects.Exit
Exit (plain_collect marks entry work) = Collects.Exit

-- ---- the contracts

-- the link's cells and those lent beside them, before the call and after it
abbrev merge_cells : Linked → List ℕ → List ℕ → Merges.Cells → Both Merges.Cells Merges.Cells
merge_cells s work ids c =
    record {
      entry = Merges.cells_of s.table.bytes s.table.names s.table.symbols s.table.sections s.inputs s.lists work ids;
      exit = c;
    }

abbrev load_cells : Linked → List ℕ → Loading.Cells → Both Loading.Cells Loading.Cells
load_cells s marks c =
    record {
      entry = Loading.cells_of s.table.bytes s.table.names s.table.symbols s.table.sections s.inputs s.lists marks;
      exit = c;
    }

abbrev pub Meets : (k : Call) → Linked → Exit k → Type 0
Meets (intern x) s e = InternMeets (store s.table) x e
Meets (reads (Read.resolve id)) s e = ResolveMeets (store s.table) id e
Meets (add conversion u) s e = AddMeets (table s.table) conversion u e
Meets (add_list conversion adds ids) s e = ListMeets (table s.table) conversion adds ids e
Meets (remove id) s e = RemoveMeets s.table.link (rows_of s.table.symbols s.table.sections) id e
Meets (reads (Read.get id)) s e = GetMeets s.table.link s.table.symbols id e
Meets (reads (Read.get_global name)) s e = GetGlobalMeets s.table.link s.table.names s.table.symbols name e
Meets (reads (Read.section_symbol section)) s e = SectionSymbolMeets s.table.link s.table.sections section e
Meets (add_group o work n) s e = GroupMeets o (group_in s.table work) n e
Meets (merge o work ids) s e = MergeMeets o (merge_cells s work ids e.cells) s.table.link e.result
Meets (merge_file file cells work ids) s e = MergeFileMeets file cells e.rows (merge_cells s work ids e.merged.cells) s.table.link e.merged.result
Meets (load o marks) s e = LoadMeets o (load_cells s marks e.cells) s.table.link e.result
Meets (reads (Read.archive_start key archives cells)) s e = StartMeets key archives cells e
Meets (reads (Read.archive_next archives cells w)) s e = NextMeets archives cells w (view_in s.table) e
Meets (reads (Read.archive_shadowed index rows w cells)) s e = ShadowedMeets index rows w (view_in s.table) cells e
Meets (reads (Read.matches headers entries contents file index cells w i)) s e = MatchesMeets s.table.link headers entries contents file index cells w i e
Meets (reads (Read.would_define headers entries contents file cells)) s e = WouldMeets headers entries contents file (view_in s.table) cells e
Meets (collect marks entry work) s e = RunMeets s.table.link (lists_in s marks) s.table.symbols s.table.sections entry work e
Meets (plain_collect marks entry work) s e = PlainMeets s.table.link (lists_in s marks) s.table.symbols s.table.sections entry work e

-- the left side of the contract: what the exit is in the terms of the call's definition
abbrev pub seen : (k : Call) → Exit k → LeftBy k
seen (intern x) e = Names.outcome e.bytes e.names e.result
seen (reads (Read.resolve id)) e = Names.resolved e.result e.number e.place
seen (add conversion u) e = Calls.outcome e.names e.symbols e.sections e.result
seen (add_list conversion adds ids) e = listed e.names e.symbols e.sections e.ids e.result
seen (remove id) e = remove_outcome e.symbols e.sections e.result
seen (reads (Read.get id)) e = e
seen (reads (Read.get_global name)) e = e
seen (reads (Read.section_symbol section)) e = e
seen (add_group o work n) e = AddGroup.left_of e.bytes e.names e.work e.result
seen (merge o work ids) e =
    Merging.outcome e.cells.bytes e.cells.names e.cells.symbols e.cells.sections e.cells.inputs e.cells.lists e.cells.work
    e.cells.ids e.result
seen (merge_file file cells work ids) e =
    file_left e.rows
    (Merging.outcome e.merged.cells.bytes e.merged.cells.names e.merged.cells.symbols e.merged.cells.sections e.merged.cells.inputs
    e.merged.cells.lists e.merged.cells.work e.merged.cells.ids e.merged.result)
seen (load o marks) e =
    Loading.outcome e.cells.bytes e.cells.names e.cells.symbols e.cells.sections e.cells.inputs e.cells.lists e.cells.marks
    e.result
seen (reads (Read.archive_start key archives cells)) e = Archive.start_left e.cells e.result
seen (reads (Read.archive_next archives cells w)) e = Archive.step_moved e.cells e.result
seen (reads (Read.archive_shadowed index rows w cells)) e = Shadowed.left e.cells e.result
seen (reads (Read.matches headers entries contents file index cells w i)) e = e
seen (reads (Read.would_define headers entries contents file cells)) e = Untaken.left e.cells e.result
seen (collect marks entry work) e = Collecting.outcome e.symbols e.sections e.work e.result
seen (plain_collect marks entry work) e = Collecting.outcome e.symbols e.sections e.work e.result

abbrev pub intern_exit : List ℕ → List ℕ → Interner.Outcome → Interning.Exit
intern_exit a b r = record { bytes = a; names = b; result = r }

abbrev pub add_exit : List ℕ → List ℕ → List ℕ → Symbols.Outcome → AddExit
add_exit a b c r = record { names = a; symbols = b; sections = c; result = r }

abbrev pub remove_exit : List ℕ → List ℕ → Symbols.Outcome → RemoveExit
remove_exit a b r = record { symbols = a; sections = b; result = r }

abbrev pub group_exit : List ℕ → List ℕ → List ℕ → Group.Outcome → Grouping.Exit
group_exit a b c r = record { bytes = a; names = b; work = c; result = r }

abbrev pub merge_exit : List ℕ → List ℕ → List ℕ → List ℕ → List ℕ → List ℕ → List ℕ → List ℕ → Merge.Outcome → MergeExit
merge_exit a b c d e f g h r = record { cells = Merges.cells_of a b c d e f g h; result = r }

abbrev pub exit_of_list : List ℕ → List ℕ → List ℕ → List ℕ → Listed → ListExit
exit_of_list a b c d r = record { names = a; symbols = b; sections = c; ids = d; result = r }

abbrev pub load_exit : List ℕ → List ℕ → List ℕ → List ℕ → List ℕ → List ℕ → List ℕ → Shared.Outcome → LoadExit
load_exit a b c d e f g r = record { cells = Loading.cells_of a b c d e f g; result = r }

abbrev pub collect_exit : List ℕ → List ℕ → List ℕ → Collection.Outcome → Collects.Exit
collect_exit a b c r = record { symbols = a; sections = b; work = c; result = r }

abbrev pub new_exit : List ℕ → List ℕ → List ℕ → List ℕ → Symbols.Outcome → NewExit
new_exit a b c d r = record { bytes = a; names = b; symbols = c; sections = d; result = r }
