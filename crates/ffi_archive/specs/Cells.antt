-- A walk in seven lent cells.
-- Assumes nothing.
use Rattle.std.specs.Prelude.{ℕ, List, get_or, set}
use Rattle.archive_walk.specs.declared.Walk.{Walk}
use Rattle.ffi_cells.specs.Header.{is_set, flag_of}

unfoldable pub walk_in : List ℕ → Walk
walk_in c =
    record {
      key = get_or c 0 0;
      entries = get_or c 1 0;
      length = get_or c 2 0;
      passes = get_or c 3 0;
      queued = get_or c 4 0;
      offered = get_or c 5 0;
      done = is_set (get_or c 6 0);
    }

unfoldable pub index_out : List ℕ → Walk → List ℕ
index_out c w = set (set (set c 0 w.key) 1 w.entries) 2 w.length

unfoldable pub counts_out : List ℕ → Walk → List ℕ
counts_out c w = set (set (set c 3 w.passes) 4 w.queued) 5 w.offered

unfoldable pub walk_out : List ℕ → Walk → List ℕ
walk_out c w = set (counts_out (index_out c w) w) 6 (flag_of w.done)
