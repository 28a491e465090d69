-- A walk over archives within a history: its calls for the next member stand anywhere among the others.
-- Assumes nothing.
use Rattle.std.specs.Prelude.{List, [], ◌∷◌, ◌++◌}
use Rattle.archive_index.specs.Archives.{Archives}
use Rattle.archive_walk.specs.Look.{Table}
use Rattle.archive_laws.specs.Runs.{Run, ran_of}
use Rattle.merge_laws.specs.Calls.{Linked}
use Rattle.link_laws.specs.Calls.{Call, archive_next, view_in, call_left, run_calls}

-- the walk after one more call for the next member
abbrev pub next_in : Archives → Run → Linked → Run
next_in archives r s = ran_of (call_left (archive_next archives r.cells r.walk) s) r.offers

-- a history in parts, with a call for the next member behind each, lent the cells and the walk that the one before it left
abbrev pub with_walk : Archives → List (List Call) → Run → Linked → List Call
with_walk archives [] r s = []
with_walk archives (ks ∷ kss) r s =
    ks ++ (archive_next archives r.cells r.walk ∷ with_walk archives kss (next_in archives r (run_calls ks s)) (run_calls ks s))

-- the walk after that history
abbrev pub walk_after : Archives → List (List Call) → Run → Linked → Run
walk_after archives [] r s = r
walk_after archives (ks ∷ kss) r s = walk_after archives kss (next_in archives r (run_calls ks s)) (run_calls ks s)

-- the tables over which its calls are made
abbrev pub tables_at : List (List Call) → Linked → List Table
tables_at [] s = []
tables_at (ks ∷ kss) s = view_in (run_calls ks s).table ∷ tables_at kss (run_calls ks s)

-- ---- "walks don't change a link": its calls left out, the history leads to the same

abbrev pub joined : List (List Call) → List Call
joined [] = []
joined (ks ∷ kss) = ks ++ joined kss
