-- The contracts of the exported collections: what a caller in another language sees of a call, the number returned, its header and every cell lent to be
-- written, against the call's definition.
-- Assumes nothing.
use Rattle.link.specs.declared.SymbolId.{SymbolId}
use Rattle.std.specs.Prelude.{ℕ, ◌≡◌, List, Option}
use Rattle.cells.specs.Slice.{SliceMut}
use Rattle.gc_sections.specs.Run.{Lists}
use Rattle.ffi_cells.specs.Header.{told}
use Rattle.ffi_collect.specs.Calls.{run_left, run_call, plain_call}

pub record RunExit : Type 0 where
  pub number : ℕ
  pub header : List ℕ
  pub symbols : List ℕ
  pub sections : List ℕ
  pub work : List ℕ

abbrev pub run_exit : ℕ → SliceMut → SliceMut → SliceMut → SliceMut → RunExit
run_exit n header symbols sections work =
    record { number = n; header = header.exit.now; symbols = symbols.exit.now; sections = sections.exit.now; work = work.exit.now }

abbrev pub RunMeets : List ℕ → Lists → List ℕ → List ℕ → Option SymbolId → List ℕ → RunExit → Type 0
RunMeets h x symbols sections entry work e =
    run_left (told e.number e.header) e.symbols e.sections e.work ≡ run_call h x symbols sections entry work

abbrev pub PlainMeets : List ℕ → Lists → List ℕ → List ℕ → Option SymbolId → List ℕ → RunExit → Type 0
PlainMeets h x symbols sections entry work e =
    run_left (told e.number e.header) e.symbols e.sections e.work ≡ plain_call h x symbols sections entry work
