-- The contract of a list of adds: what a caller sees of the call, its result and every cell that it lent to be written, against the call's definition.
-- Assumes nothing.
use Rattle.std.specs.Prelude.{ℕ, ◌≡◌, List, Result}
use Rattle.cells.specs.Slice.{SliceMut}
use Rattle.link.specs.declared.cause.Refusal.{Refusal}
use Rattle.link.specs.Judge.{none, refusal_in}
use Rattle.symbol_resolution.specs.declared.write.Table.{Table as Lent}
use Rattle.symbol_resolution.specs.Apply.{Table, table_of}
use Rattle.symbol_resolution.specs.Lent.{table_in}
use Rattle.add_list.specs.declared.Listed.{Listed as Answer}
use Rattle.add_list.specs.Listed.{Listed}
use Rattle.add_list.specs.AddList.{ListLeft, list_left, items_of, add_list_of}

abbrev pub listed : List ℕ → List ℕ → List ℕ → List ℕ → Listed → ListLeft
listed names symbols sections ids r =
    list_left (table_of names symbols sections r.table.link) ids r.refusal r.position

-- of a table and cells for ids that were lent
abbrev pub listed_in : Lent → SliceMut → Answer → ListLeft
listed_in t ids r = list_left (table_in t) ids.exit.now (refusal_in r.answer) r.position

-- of an add of the list: before it, and what it leaves
abbrev pub turn_before : Lent → SliceMut → ListLeft
turn_before t ids = list_left (table_in t) ids.entry.now none 0

abbrev pub turn_after : Lent → SliceMut → Result Unit Refusal → ℕ → ListLeft
turn_after t ids r k = list_left (table_in t) ids.exit.now (refusal_in r) k

pub record ListExit : Type 0 where
  pub names : List ℕ
  pub symbols : List ℕ
  pub sections : List ℕ
  pub ids : List ℕ
  pub result : Listed

abbrev pub list_exit : Lent → SliceMut → Answer → ListExit
list_exit t ids r =
    record {
      names = t.names.now;
      symbols = t.symbols.now;
      sections = t.sections.now;
      ids = ids.exit.now;
      result = record { table = record { link = t.link }; refusal = refusal_in r.answer; position = r.position };
    }

abbrev pub ListMeets : Table → List ℕ → List ℕ → List ℕ → ListExit → Type 0
ListMeets t conversion adds ids e =
    listed e.names e.symbols e.sections e.ids e.result ≡ add_list_of conversion (items_of adds) t ids
