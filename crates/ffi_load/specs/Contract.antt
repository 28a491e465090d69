-- The contracts of the exported load: what a caller in another language sees of a call, the number returned, its header and every cell lent to be
-- written, against the call's definition.
-- Assumes nothing.
use Rattle.std.specs.Prelude.{ℕ, ◌≡◌, List}
use denote.Triple.Both.{Both}
use Rattle.cells.specs.Slice.{SliceMut}
use Rattle.shared_objects.specs.Load.{Input}
use Rattle.ffi_cells.specs.Header.{told}
use Rattle.ffi_cells.specs.Contract.{ToldExit}
use Rattle.ffi_load.specs.Calls.{Rows, rows_of, load_left, load_call}

-- the link's rows and the marks, before the call and after it
abbrev pub link_rows : SliceMut → SliceMut → SliceMut → SliceMut → SliceMut → SliceMut → SliceMut → Both Rows Rows
link_rows b n s x i l m =
    record {
      entry = rows_of b.entry.now n.entry.now s.entry.now x.entry.now i.entry.now l.entry.now m.entry.now;
      exit = rows_of b.exit.now n.exit.now s.exit.now x.exit.now i.exit.now l.exit.now m.exit.now;
    }

abbrev pub LoadMeets : List ℕ → Input → Both Rows Rows → ToldExit → Type 0
LoadMeets h o c e = load_left (told e.number e.header) c.exit ≡ load_call h o c.entry
