-- One pass of a walk within a history: the run before the call that makes the pass, the link at that call, the run after it, and the run when the pass is over.
-- Assumes nothing.
use Rattle.std.specs.Prelude.{ℕ, ◌≡◌, List}
use Rattle.archive_index.specs.Archives.{Archives}
use Rattle.archive_walk.specs.Walk.{begun_number, start_of}
use Rattle.archive_laws.specs.Runs.{Run, start_run}
use Rattle.merge_laws.specs.Calls.{Linked}
use Rattle.link_laws.specs.Calls.{Call, run_calls}
use Rattle.link_laws.specs.Walks.{next_in, walk_after, joined}

module _ (archives : Archives) where
  module _ (key : ℕ) (cells : List ℕ) (begun : begun_number (start_of key archives cells).started.begun ≡ 0) (s : Linked) where
    module _ (kss : List (List Call)) (ks : List Call) (lss : List (List Call)) where
      abbrev pub run_before : Run
      run_before = walk_after archives kss (start_run key archives cells) s

      abbrev pub link_then : Linked
      link_then = run_calls ks (run_calls (joined kss) s)

      abbrev pub run_then : Run
      run_then = next_in archives run_before link_then

      abbrev pub run_after : Run
      run_after = walk_after archives lss run_then link_then
