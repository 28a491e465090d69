-- The contracts of the exported calls on an object: what a caller in another language sees of a call, the number returned, its header and every cell lent to be
-- written, against the call's definition.
-- Assumes nothing.
use Rattle.std.specs.Prelude.{ℕ, ◌≡◌, List}
use denote.Triple.Both.{Both}
use Rattle.cells.specs.Slice.{Slice, SliceMut}
use Rattle.section_groups.specs.Group as Group
use Rattle.merge_stages.specs.Stages as Stages
use Rattle.ffi_cells.specs.Header.{told}
use Rattle.ffi_cells.specs.Contract.{ToldExit}
use Rattle.ffi_merge.specs.Calls.{group_left, group_call, Rows, rows_of, merge_left, merge_call}

-- ---- `add_group`

pub record GroupExit : Type 0 where
  pub number : ℕ
  pub header : List ℕ
  pub bytes : List ℕ
  pub names : List ℕ
  pub work : List ℕ

abbrev pub group_exit : ℕ → SliceMut → SliceMut → SliceMut → SliceMut → GroupExit
group_exit n header bytes names work =
    record { number = n; header = header.exit.now; bytes = bytes.exit.now; names = names.exit.now; work = work.exit.now }

-- the object as it is lent, its symbol table being of section t
abbrev pub group_object : Slice → Slice → Slice → Slice → ℕ → Group.Object
group_object headers entries contents image t = Group.object_of headers.entry.now entries.entry.now contents.entry.now image.entry.now t

abbrev pub GroupMeets : List ℕ → Group.Object → List ℕ → List ℕ → List ℕ → ℕ → GroupExit → Type 0
GroupMeets h o bytes names work n e =
    group_left (told e.number e.header) e.bytes e.names e.work ≡ group_call h o bytes names work n

-- ---- `merge_elf`

-- the link's rows and the work cells, before the call and after it
abbrev pub link_rows : SliceMut → SliceMut → SliceMut → SliceMut → SliceMut → SliceMut → SliceMut → SliceMut → Both Rows Rows
link_rows b n s x i l w d =
    record {
      entry = rows_of b.entry.now n.entry.now s.entry.now x.entry.now i.entry.now l.entry.now w.entry.now d.entry.now;
      exit = rows_of b.exit.now n.exit.now s.exit.now x.exit.now i.exit.now l.exit.now w.exit.now d.exit.now;
    }

-- the object as it is lent
abbrev pub merge_object : Slice → Slice → Slice → Slice → ℕ → Stages.Object
merge_object headers entries contents image shstrndx = Stages.object_of headers.entry.now entries.entry.now contents.entry.now image.entry.now shstrndx

abbrev pub MergeMeets : List ℕ → Stages.Object → Both Rows Rows → ToldExit → Type 0
MergeMeets h o c e = merge_left (told e.number e.header) c.exit ≡ merge_call h o c.entry
