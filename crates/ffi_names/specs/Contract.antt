-- The contracts of the exported calls on names: what a caller in another language sees of a call, the number returned, its header and every cell lent to be
-- written, against the call's definition.
-- Assumes nothing.
use Rattle.std.specs.Prelude.{ℕ, ◌≡◌, List}
use Rattle.cells.specs.Slice.{SliceMut}
use Rattle.ffi_cells.specs.Header.{told}
use Rattle.ffi_cells.specs.Contract.{ToldExit}
use Rattle.ffi_names.specs.Calls.{intern_left, intern_call, resolve_call, find_call}

pub record InternExit : Type 0 where
  pub number : ℕ
  pub header : List ℕ
  pub bytes : List ℕ
  pub names : List ℕ

abbrev pub intern_exit : ℕ → SliceMut → SliceMut → SliceMut → InternExit
intern_exit n header bytes names = record { number = n; header = header.exit.now; bytes = bytes.exit.now; names = names.exit.now }

abbrev pub InternMeets : List ℕ → List ℕ → List ℕ → List ℕ → InternExit → Type 0
InternMeets h bytes names x e = intern_left (told e.number e.header) e.bytes e.names ≡ intern_call h bytes names x

abbrev pub ResolveMeets : List ℕ → List ℕ → List ℕ → ℕ → ToldExit → Type 0
ResolveMeets h bytes names id e = told e.number e.header ≡ resolve_call h bytes names id

abbrev pub FindMeets : List ℕ → List ℕ → List ℕ → List ℕ → ToldExit → Type 0
FindMeets h bytes names x e = told e.number e.header ≡ find_call h bytes names x
