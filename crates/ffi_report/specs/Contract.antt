-- The contract of the exported call: what a caller in another language sees of it, the number returned, its header and every cell lent to be written, against
-- the call's definition.
-- Assumes nothing.
use Rattle.std.specs.Prelude.{ℕ, ◌≡◌, List}
use Rattle.cells.specs.Slice.{SliceMut}
use Rattle.ffi_cells.specs.Header.{told}
use Rattle.ffi_report.specs.Calls.{TitleLeft, title_left, title_call}

abbrev pub title_exit : ℕ → SliceMut → SliceMut → SliceMut → TitleLeft
title_exit n header report figures = title_left (told n header.exit.now) report.exit.now figures.exit.now

abbrev pub TitleMeets : List ℕ → List ℕ → List ℕ → List ℕ → List ℕ → List ℕ → TitleLeft → Type 0
TitleMeets h walk symbols sections report figures e = e ≡ title_call h walk symbols sections report figures
