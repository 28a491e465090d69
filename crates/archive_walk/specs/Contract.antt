-- The contracts of a walk's start and of a call for the next member: what a caller sees of them, the result and every cell lent to be written, against
-- their definitions.
-- Assumes nothing.
use Rattle.std.specs.Prelude.{ℕ, ◌≡◌, List}
use Rattle.cells.specs.Slice.{SliceMut}
use Rattle.archive_index.specs.Archives.{Archives}
use Rattle.archive_walk.specs.declared.Walk.{Walk}
use Rattle.archive_walk.specs.Look.{Table}
use Rattle.archive_walk.specs.Walk.{Started, Moved, start_left, start_of, step_moved, next_of}

-- ---- `start`

pub record StartExit : Type 0 where
  pub cells : List ℕ
  pub result : Started

abbrev pub start_exit : SliceMut → Started → StartExit
start_exit cells r = record { cells = cells.exit.now; result = r }

abbrev pub StartMeets : ℕ → Archives → List ℕ → StartExit → Type 0
StartMeets key archives cells e = start_left e.cells e.result ≡ start_of key archives cells

-- ---- `next`, by value or in place: the walk and the offer are the result

pub record NextExit : Type 0 where
  pub cells : List ℕ
  pub result : Moved

abbrev pub next_exit : SliceMut → Moved → NextExit
next_exit cells r = record { cells = cells.exit.now; result = r }

abbrev pub NextMeets : Archives → List ℕ → Walk → Table → NextExit → Type 0
NextMeets archives cells w t e = step_moved e.cells e.result ≡ next_of archives cells w t
