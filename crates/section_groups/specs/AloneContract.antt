-- The contract of `add_group`: what a caller sees of it, its result and every cell that it lent to be written, against its definition.
-- Assumes nothing.
use Rattle.std.specs.Prelude.{ℕ, ◌≡◌, List}
use Rattle.cells.specs.Slice.{SliceMut}
use Rattle.section_groups.specs.Group.{Object, State}
use Rattle.section_groups.specs.declared.alone.Outcome.{Outcome}
use Rattle.section_groups.specs.AddGroup.{left_of, add_group_of}

pub record Exit : Type 0 where
  pub bytes : List ℕ
  pub names : List ℕ
  pub work : List ℕ
  pub result : Outcome

abbrev pub group_exit : SliceMut → SliceMut → SliceMut → Outcome → Exit
group_exit bytes names work r = record { bytes = bytes.exit.now; names = names.exit.now; work = work.exit.now; result = r }

abbrev pub GroupMeets : Object → State → ℕ → Exit → Type 0
GroupMeets o s n e = left_of e.bytes e.names e.work e.result ≡ add_group_of o s n
