-- The contracts of the exported lookups: what a caller in another language sees of a call, the number returned, its header and every cell lent to be
-- written, against the call's definition.
-- Assumes nothing.
use Rattle.std.specs.Prelude.{ℕ, ◌≡◌, List}
use Rattle.cells.specs.Slice.{SliceMut}
use Rattle.ffi_cells.specs.Header.{told}
use Rattle.ffi_cells.specs.Contract.{ToldExit}
use Rattle.ffi_symbols.specs.LookupCalls.{found_left, get_call, get_global_call, section_symbol_call}

pub record FoundExit : Type 0 where
  pub number : ℕ
  pub header : List ℕ
  pub out : List ℕ

abbrev pub found_exit : ℕ → SliceMut → SliceMut → FoundExit
found_exit n header out = record { number = n; header = header.exit.now; out = out.exit.now }

abbrev pub GetMeets : List ℕ → List ℕ → ℕ → List ℕ → FoundExit → Type 0
GetMeets h symbols id out e = found_left (told e.number e.header) e.out ≡ get_call h symbols id out

abbrev pub GetGlobalMeets : List ℕ → List ℕ → List ℕ → ℕ → List ℕ → FoundExit → Type 0
GetGlobalMeets h names symbols name out e = found_left (told e.number e.header) e.out ≡ get_global_call h names symbols name out

abbrev pub SectionSymbolMeets : List ℕ → List ℕ → ℕ → ToldExit → Type 0
SectionSymbolMeets h sections section e = told e.number e.header ≡ section_symbol_call h sections section
