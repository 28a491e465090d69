-- The contract of the exported call: what a caller in another language sees of it, the number returned, its header and every cell lent to be written,
-- against the call's definition.
-- Assumes nothing.
use Rattle.std.specs.Prelude.{ℕ, ◌≡◌, List}
use Rattle.cells.specs.Slice.{SliceMut}
use Rattle.ffi_cells.specs.Header.{told}
use Rattle.ffi_list.specs.Calls.{list_left, list_call}

pub record ListExit : Type 0 where
  pub number : ℕ
  pub header : List ℕ
  pub names : List ℕ
  pub symbols : List ℕ
  pub sections : List ℕ
  pub ids : List ℕ

abbrev pub list_exit : ℕ → SliceMut → SliceMut → SliceMut → SliceMut → SliceMut → ListExit
list_exit n header names symbols sections ids =
    record {
      number = n;
      header = header.exit.now;
      names = names.exit.now;
      symbols = symbols.exit.now;
      sections = sections.exit.now;
      ids = ids.exit.now;
    }

abbrev pub ListMeets : List ℕ → List ℕ → List ℕ → List ℕ → List ℕ → List ℕ → List ℕ → ListExit → Type 0
ListMeets h names symbols sections conversion adds ids e =
    list_left (told e.number e.header) e.names e.symbols e.sections e.ids ≡ list_call h names symbols sections conversion adds ids
