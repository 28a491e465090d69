-- A run whose cells, counts and answers fit the entries' keys and names, and the indexes that its calls are lent.
-- Assumes nothing.
use Rattle.std.specs.Prelude.{ℕ, ◌≤◌, ◌≡◌, List, length}
use Rattle.archive_index.specs.Archives.{Archives, last_end}
use Rattle.archive_laws.specs.Runs.{queue_list, Run}
use Rattle.archive_laws.specs.Pass.{Sound, Low}

-- no more ends than a start takes; the last lies in the slice, and is no lower than n
pub record Lent (s : Archives) (n : ℕ) : Type 0 where
  pub few : length s.ends ≤ 16
  pub within : last_end s ≤ length s.bytes
  pub whole : n ≤ last_end s

module _ (key : ℕ) (s : Archives) (keys : ℕ → ℕ) (named : ℕ → List ℕ) (c : ℕ) where
  -- a run's cells, counts and answers fit
  pub record Fine (r : Run) : Type 0 where
    pub keyed : r.walk.key ≡ key
    pub entries : r.walk.entries ≡ c
    pub lent : Lent s r.walk.length
    pub sound : Sound key s.bytes keys named c r.cells r.walk.queued
    pub low : Low key s.bytes keys named c r.walk.passes r.cells
    pub sent : r.offers ≡ queue_list r.cells r.walk.offered
