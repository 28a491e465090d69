-- The contract of `shadowed`: what a caller sees of it, the answer and the cells lent to be written, against its definition.
-- Assumes nothing.
use Rattle.std.specs.Prelude.{ℕ, ◌≡◌, List, Result}
use Rattle.cells.specs.Slice.{SliceMut}
use Rattle.link.specs.declared.cause.Refusal.{Refusal}
use Rattle.archive_walk.specs.declared.Walk.{Walk}
use Rattle.archive_walk.specs.Look.{Table}
use Rattle.shadowed_members.specs.Shadowed.{left, shadowed_of}

pub record ShadowedExit : Type 0 where
  pub cells : List ℕ
  pub result : Result ℕ Refusal

abbrev pub shadowed_exit : SliceMut → Result ℕ Refusal → ShadowedExit
shadowed_exit cells r = record { cells = cells.exit.now; result = r }

abbrev pub ShadowedMeets : List ℕ → List ℕ → Walk → Table → List ℕ → ShadowedExit → Type 0
ShadowedMeets index rows w t cells e = left e.cells e.result ≡ shadowed_of index rows w t cells
