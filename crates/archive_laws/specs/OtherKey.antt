-- Two walks that differ in their keys: the same walk under another key, and what two runs over the same calls have in common.
-- Assumes nothing.
use Rattle.std.specs.Prelude.{ℕ, ◌≡◌, List}
use Rattle.archive_index.specs.Archives.{Archives}
use Rattle.archive_index.specs.Rows.{required_at}
use Rattle.archive_walk.specs.declared.Walk.{Walk}
use Rattle.archive_walk.specs.Look.{Table}
use Rattle.archive_walk.specs.Walk.{next_of}
use Rattle.archive_laws.specs.Runs.{Run}

-- the walk with another key
abbrev pub with_key : ℕ → Walk → Walk
with_key key w =
    record { key = key; entries = w.entries; length = w.length; passes = w.passes; queued = w.queued; offered = w.offered; done = w.done }

-- the second is the first under that key
abbrev pub Rekeyed : ℕ → Walk → Walk → Type 0
Rekeyed key w w' = w' ≡ with_key key w

-- the same entries are asked for
abbrev pub SameMarks : List ℕ → List ℕ → Type 0
SameMarks l m = (k : ℕ) → required_at m k ≡ required_at l k

-- what two runs have in common
pub record Agree (s : Archives) (r r' : Run) : Type 0 where
  pub offers : r'.offers ≡ r.offers
  pub passes : r'.walk.passes ≡ r.walk.passes
  pub done : r'.walk.done ≡ r.walk.done
  -- the next answer, over any table
  pub answer : (t : Table) → (next_of s r'.cells r'.walk t).moved.offer ≡ (next_of s r.cells r.walk t).moved.offer
  pub mark : SameMarks r.cells r'.cells
