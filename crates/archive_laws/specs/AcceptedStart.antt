-- A start that accepts some indexes: what it finds of them and of the rows lent, and the cells and the walk that it leaves.
-- Assumes nothing.
use Rattle.std.specs.Prelude.{ℕ, ◌/◌, ◌+◌, ◌<◌, ◌≤◌, ◌≡◌, List, length}
use Rattle.archive_index.specs.Index.{names_at, cut_of}
use Rattle.archive_index.specs.Archives.{Archives, index_at, count_at, entries_in, last_end}
use Rattle.archive_index.specs.Rows.{rows_of, no_heads}
use Rattle.archive_index.specs.Open.{Left, left, opened_as}
use Rattle.link.specs.Judge.{none}
use Rattle.archive_walk.specs.Walk.{fresh_walk}
use Rattle.archive_laws.specs.Runs.{Run, begun_run}

-- of the n indexes from j on no name is cut short
abbrev pub Whole : Archives → ℕ → ℕ → Type 0
Whole a n j = (i : ℕ) → j ≤ i → i < j + n → count_at a i ≤ cut_of (index_at a i) (names_at (count_at a i)) (count_at a i) 0

-- the ends are 16 at most, and the last lies in the slice; the entries are within their bound, no name is cut short, and there is a row for each entry: these are made
pub record Accepted (a : Archives) (l : List ℕ) (x : Left) : Type 0 where
  pub few : length a.ends ≤ 16
  pub within : last_end a ≤ length a.bytes
  pub bound : entries_in a ≤ 65535
  pub names : Whole a (length a.ends) 0
  pub rows : entries_in a ≤ length l / 8
  pub made : x ≡ left (rows_of a l) (opened_as (entries_in a) none)

-- the cells then, and the run that begins with them
abbrev pub fresh_cells : Archives → List ℕ → List ℕ
fresh_cells a l = no_heads (entries_in a) (rows_of a l)

abbrev pub fresh_run : ℕ → Archives → List ℕ → Run
fresh_run key a l = begun_run (fresh_cells a l) (fresh_walk key (entries_in a) (last_end a))
