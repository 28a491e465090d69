-- What a table that owns its cells does, in the terms of the calls that it lends them to.
-- Assumes nothing.
use Rattle.std.specs.Prelude.{ℕ, ◌≡◌, ◌*◌, List, Result, Ok, Err, false, replicate}
use Rattle.link.specs.declared.Interned.{Interned}
use Rattle.link.specs.declared.SymbolId.{SymbolId}
use Rattle.link.specs.declared.cause.Refusal.{Refusal}
use Rattle.upcoming_symbol.specs.declared.ElfSymbol.{ElfSymbol}
use Rattle.upcoming_symbol.specs.declared.UpcomingSymbol.{UpcomingSymbol}
use Rattle.upcoming_symbol.specs.declared.UpcomingSymbol.TheVariants.{Elf}
use Rattle.std.specs.Prelude.{None}
use Rattle.interner.specs.Names.{Store, store_of}
use Rattle.interner.specs.Calls as Names
use Rattle.symbol_resolution.specs.Apply.{Table, table_of}
use Rattle.symbols.specs.Calls as Calls
use Rattle.symbols.specs.New.{new_left, new_of}
use Rattle.symbols.specs.Add.{add_of}
use Rattle.symbols.specs.Remove.{Rows, remove_left, remove_of}
use Rattle.symbols.specs.Remove as Remove
use Rattle.owned_table.specs.declared.Room.{Room}
use Rattle.owned_table.specs.declared.OwnedTable.{OwnedTable}

-- what the calls on names, the calls on symbols and a removal are lent
abbrev pub names_of : OwnedTable → Store
names_of t = store_of t.bytes.items t.names.items t.table.link

abbrev pub cells_of : OwnedTable → Table
cells_of t = table_of t.names.items t.symbols.items t.sections.items t.table.link

abbrev pub rows_of : OwnedTable → Rows
rows_of t = Remove.rows_of t.symbols.items t.sections.items

-- ---- what the calls leave and answer

-- a new table over these cells: the profile is the old one, the key 0
pub record Restarts (old new : OwnedTable) (answer : Result SymbolId Refusal) : Type 0 where
  pub cells : new_left new.bytes.items (cells_of new) (Calls.said answer) ≡ new_of 0 false old.bytes.items old.names.items old.symbols.items old.sections.items

-- a new table over as many cells as there is room, that hold 0
pub record IsNew (room : Room) (new : OwnedTable) : Type 0 where
  pub bytes : new.bytes.items ≡ (new_of 0 false (replicate room.bytes 0) (replicate (room.names * 9) 0) (replicate (room.symbols * 8) 0) (replicate (room.sections * 9) 0)).bytes
  pub cells : cells_of new ≡ (new_of 0 false (replicate room.bytes 0) (replicate (room.names * 9) 0) (replicate (room.symbols * 8) 0) (replicate (room.sections * 9) 0)).table

pub record Interns (old : OwnedTable) (name : List ℕ) (new : OwnedTable) (answer : Result Interned Refusal) : Type 0 where
  pub names : Names.left (names_of new) (Names.said answer) ≡ Names.intern_of (names_of old) name
  pub symbols : new.symbols.items ≡ old.symbols.items
  pub sections : new.sections.items ≡ old.sections.items

pub record Adds (old : OwnedTable) (conversion : List ℕ) (upcoming : UpcomingSymbol) (new : OwnedTable) (answer : Result SymbolId Refusal) : Type 0 where
  pub cells : Calls.left (cells_of new) (Calls.said answer) ≡ add_of (cells_of old) conversion upcoming
  pub bytes : new.bytes.items ≡ old.bytes.items

pub record Removes (old : OwnedTable) (id : SymbolId) (new : OwnedTable) (answer : Result SymbolId Refusal) : Type 0 where
  pub rows : remove_left (rows_of new) new.table.link (Calls.said answer) ≡ remove_of old.table.link (rows_of old) id
  pub bytes : new.bytes.items ≡ old.bytes.items
  pub names : new.names.items ≡ old.names.items

-- the name is issued first, and its refusal is the answer
pub data AddsElf (old : OwnedTable) (conversion name : List ℕ) (elf : ElfSymbol) (new : OwnedTable) (answer : Result SymbolId Refusal) : Type 0 where
  unnamed : {r : Refusal} → Interns old name new (Err r) → answer ≡ Err r → AddsElf old conversion name elf new answer
  named : {id : Interned} → (mid : OwnedTable) → Interns old name mid (Ok id) → Adds mid conversion (Elf elf id None) new answer → AddsElf old conversion name elf new answer
