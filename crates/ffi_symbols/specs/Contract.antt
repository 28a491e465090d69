-- The contracts of the exported calls on the table: what a caller in another language sees of a call, the number returned, its header and every cell lent to be
-- written, against the call's definition.
-- Assumes nothing.
use Rattle.std.specs.Prelude.{ℕ, ◌≡◌, List}
use Rattle.cells.specs.Slice.{SliceMut}
use Rattle.ffi_cells.specs.Header.{told}
use Rattle.ffi_symbols.specs.Calls.{new_left, new_call, add_left, add_call, remove_left, remove_call}

pub record NewExit : Type 0 where
  pub number : ℕ
  pub header : List ℕ
  pub bytes : List ℕ
  pub names : List ℕ
  pub symbols : List ℕ
  pub sections : List ℕ

abbrev pub new_exit : ℕ → SliceMut → SliceMut → SliceMut → SliceMut → SliceMut → NewExit
new_exit n header bytes names symbols sections =
    record {
      number = n;
      header = header.exit.now;
      bytes = bytes.exit.now;
      names = names.exit.now;
      symbols = symbols.exit.now;
      sections = sections.exit.now;
    }

abbrev pub NewMeets : List ℕ → ℕ → ℕ → List ℕ → List ℕ → List ℕ → List ℕ → NewExit → Type 0
NewMeets h key profile bytes names symbols sections e =
    new_left (told e.number e.header) e.bytes e.names e.symbols e.sections ≡ new_call h key profile bytes names symbols sections

pub record AddExit : Type 0 where
  pub number : ℕ
  pub header : List ℕ
  pub names : List ℕ
  pub symbols : List ℕ
  pub sections : List ℕ

abbrev pub add_exit : ℕ → SliceMut → SliceMut → SliceMut → SliceMut → AddExit
add_exit n header names symbols sections =
    record { number = n; header = header.exit.now; names = names.exit.now; symbols = symbols.exit.now; sections = sections.exit.now }

abbrev pub AddMeets : List ℕ → List ℕ → List ℕ → List ℕ → List ℕ → List ℕ → AddExit → Type 0
AddMeets h names symbols sections conversion item e =
    add_left (told e.number e.header) e.names e.symbols e.sections ≡ add_call h names symbols sections conversion item

pub record RemoveExit : Type 0 where
  pub number : ℕ
  pub header : List ℕ
  pub symbols : List ℕ
  pub sections : List ℕ

abbrev pub remove_exit : ℕ → SliceMut → SliceMut → SliceMut → RemoveExit
remove_exit n header symbols sections = record { number = n; header = header.exit.now; symbols = symbols.exit.now; sections = sections.exit.now }

abbrev pub RemoveMeets : List ℕ → List ℕ → List ℕ → ℕ → RemoveExit → Type 0
RemoveMeets h symbols sections id e = remove_left (told e.number e.header) e.symbols e.sections ≡ remove_call h symbols sections id
