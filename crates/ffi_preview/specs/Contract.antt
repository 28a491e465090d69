-- The contract of the exported call: what a caller in another language sees of it, the number returned, both headers and every cell lent to be written.
-- Assumes nothing.
use Rattle.std.specs.Prelude.{ℕ, ◌≡◌, List, []}
use denote.Triple.Both.{Both}
use Rattle.cells.specs.Slice.{Slice, SliceMut}
use Rattle.merge_stages.specs.Stages as Stages
use Rattle.preview.specs.Preview.{Tables}
use Rattle.ffi_cells.specs.Header.{told, link_in}
use Rattle.ffi_merge.specs.Calls.{Rows, rows_of}
use Rattle.ffi_preview.specs.Calls.{preview_left, preview_call}

-- the link's rows, without its counts
abbrev pub tables_in : Slice → Slice → Slice → Slice → Slice → Slice → Tables
tables_in b n s x i l =
    record { bytes = b.entry.now; names = n.entry.now; symbols = s.entry.now; sections = x.entry.now; inputs = i.entry.now; lists = l.entry.now; link = link_in [] }

abbrev pub copy_rows : SliceMut → SliceMut → SliceMut → SliceMut → SliceMut → SliceMut → SliceMut → SliceMut → Both Rows Rows
copy_rows b n s x i l w d =
    record {
      entry = rows_of b.entry.now n.entry.now s.entry.now x.entry.now i.entry.now l.entry.now w.entry.now d.entry.now;
      exit = rows_of b.exit.now n.exit.now s.exit.now x.exit.now i.exit.now l.exit.now w.exit.now d.exit.now;
    }

abbrev pub preview_object : Slice → Slice → Slice → Slice → ℕ → Stages.Object
preview_object headers entries contents image shstrndx = Stages.object_of headers.entry.now entries.entry.now contents.entry.now image.entry.now shstrndx

pub record PreviewExit : Type 0 where
  pub number : ℕ
  pub header : List ℕ
  pub copy : List ℕ

abbrev pub preview_exit : ℕ → SliceMut → SliceMut → PreviewExit
preview_exit n header copy = record { number = n; header = header.exit.now; copy = copy.exit.now }

abbrev pub PreviewMeets : List ℕ → List ℕ → Stages.Object → Tables → Both Rows Rows → PreviewExit → Type 0
PreviewMeets h c o t r e = preview_left (told e.number e.header) e.copy r.exit ≡ preview_call h c o t r.entry
