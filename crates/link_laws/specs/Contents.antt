-- From which entry a row of a history's log is: a symbol of an object that a merge took, of a library that was loaded, or a direct add, alone or in a list.
-- Assumes nothing.
use Rattle.std.specs.Prelude.{ℕ, ◌≡◌, true, List, [], ◌∷◌, ◌++◌}
use Rattle.symbol.specs.declared.Row.{Row}
use Rattle.upcoming_symbol.specs.declared.UpcomingSymbol.{UpcomingSymbol}
use Rattle.upcoming_symbol.specs.Upcoming.{name_of}
use Rattle.symbols.specs.Add.{empty_at}
use Rattle.symbol_laws.specs.History.{State}
use Rattle.symbol_laws.specs.History as History
use Rattle.symbol_laws.specs.DirectContents.{FromAdd}
use Rattle.merge_laws.specs.LogContents.{FromSymbol}
use Rattle.merge_laws.specs.Calls.{Linked, all_in}
use Rattle.load_laws.specs.LibraryContents.{FromLibrary}
use Rattle.link_laws.specs.Calls.{Call, intern, add, remove, add_group, merge, merge_file, load, collect, plain_collect, library_in, call_next, is_read, reads, add_list}
use Rattle.elf_laws.specs.Object as ElfFile
use Rattle.link_laws.specs.Kept.{signatures}
use Rattle.add_list.specs.AddList.{items_of}

-- adds of these, one by one
abbrev pub adds_of_each : List ℕ → List UpcomingSymbol → List History.Call
adds_of_each conversion [] = []
adds_of_each conversion (u ∷ us) = History.add conversion u ∷ adds_of_each conversion us

-- the row is from an add of the list, to the table that the adds before it left
pub record FromList (conversion : List ℕ) (us : List UpcomingSymbol) (t : State) (r : Row) : Type 0 where
  pub before : List UpcomingSymbol
  pub symbol : UpcomingSymbol
  pub after : List UpcomingSymbol
  pub split : us ≡ before ++ symbol ∷ after
  pub state : State
  pub reached : state ≡ History.run_calls (adds_of_each conversion before) t
  pub from : FromAdd state.link.gabi conversion (empty_at state.names (name_of symbol)) r symbol

-- the row is that of an entry of this call, made on s, where these signatures are met
abbrev pub FromCall : Call → Linked → List (List ℕ) → Row → Type 0
FromCall (intern x) s met r = ⊥
FromCall (reads k) s met r = ⊥
FromCall (add conversion u) s met r = FromAdd s.table.link.gabi conversion (empty_at s.table.names (name_of u)) r u
FromCall (add_list conversion adds ids) s met r = FromList conversion (items_of adds) s.table r
FromCall (remove id) s met r = ⊥
FromCall (add_group o work n) s met r = ⊥
FromCall (merge o work ids) s met r = FromSymbol o (all_in s work ids) met r
-- the file is read, and the row is that of one of its symbols
FromCall (merge_file file cells work ids) s met r = (is_read file cells s ≡ true) × FromSymbol (ElfFile.rows_of file) (all_in s work ids) met r
FromCall (load o marks) s met r = FromLibrary o (library_in s marks) r
FromCall (collect marks entry work) s met r = ⊥
FromCall (plain_collect marks entry work) s met r = ⊥

-- of one of these calls, made one after the other
pub data FromCalls (r : Row) : List Call → Linked → List (List ℕ) → Type 0 where
  here : {k : Call} {ks : List Call} {s : Linked} {met : List (List ℕ)} → FromCall k s met r → FromCalls r (k ∷ ks) s met
  later : {k : Call} {ks : List Call} {s : Linked} {met : List (List ℕ)} → FromCalls r ks (call_next k s) (met ++ signatures (k ∷ []) s) → FromCalls r (k ∷ ks) s met
