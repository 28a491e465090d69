-- The contracts of the exported calls on a file: the number returned, and every cell lent to be written, against the call's definition.
-- Assumes nothing.
use Rattle.std.specs.Prelude.{ℕ, ◌≡◌, List}
use denote.Triple.Both.{Both}
use Rattle.cells.specs.Slice.{SliceMut}
use Rattle.ffi_cells.specs.Header.{told}
use Rattle.ffi_cells.specs.Contract.{ToldExit}
use Rattle.ffi_merge.specs.Calls.{rows_of}
use Rattle.ffi_merge.specs.FileCalls.{CountLeft, count_left, count_call, read_left, read_call, Lent, lent_of, file_left, file_call}

-- ---- `count_file`

abbrev pub count_exit : ℕ → SliceMut → CountLeft
count_exit n answer = count_left n answer.exit.now

abbrev pub CountMeets : List ℕ → List ℕ → CountLeft → Type 0
CountMeets answer file e = e ≡ count_call answer file

-- ---- `read_file`

pub record ReadExit : Type 0 where
  pub number : ℕ
  pub answer : List ℕ
  pub rows : List ℕ

abbrev pub read_exit : ℕ → SliceMut → SliceMut → ReadExit
read_exit n answer rows = record { number = n; answer = answer.exit.now; rows = rows.exit.now }

abbrev pub ReadMeets : List ℕ → List ℕ → List ℕ → ReadExit → Type 0
ReadMeets answer file rows e = read_left e.number e.answer e.rows ≡ read_call answer file rows

-- ---- `merge_file`

-- the link's rows, the work cells and the cells for the file's rows, before the call and after it
abbrev pub lent_rows : SliceMut → SliceMut → SliceMut → SliceMut → SliceMut → SliceMut → SliceMut → SliceMut → SliceMut → Both Lent Lent
lent_rows b n s x i l w d r =
    record {
      entry = lent_of (rows_of b.entry.now n.entry.now s.entry.now x.entry.now i.entry.now l.entry.now w.entry.now d.entry.now) r.entry.now;
      exit = lent_of (rows_of b.exit.now n.exit.now s.exit.now x.exit.now i.exit.now l.exit.now w.exit.now d.exit.now) r.exit.now;
    }

abbrev pub FileMeets : List ℕ → List ℕ → Both Lent Lent → ToldExit → Type 0
FileMeets h file c e = file_left (told e.number e.header) c.exit ≡ file_call h file c.entry
