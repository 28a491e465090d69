-- The passes of a walk, counted call by call. The walk's own number of passes isn't looked at: whether it is over, and how many members it queued and handed
-- out, is. Words for statements: no function and no contract has them.
-- Assumes nothing.
use Rattle.std.specs.Prelude.{ℕ, ◌+◌, Bool, false, cond, List, [], ◌∷◌, ltb, is_ok}
use Rattle.archive_index.specs.Archives.{Archives}
use Rattle.archive_walk.specs.Look.{Table}
use Rattle.archive_walk.specs.Walk.{next_of}
use Rattle.archive_laws.specs.Runs.{Run, step_run}

-- a call makes a pass where the walk isn't over, every member queued so far was handed out, and the call isn't refused
abbrev pub makes_pass : Archives → Run → Table → Bool
makes_pass a r t = cond r.walk.done false (cond (ltb r.walk.offered r.walk.queued) false (is_ok (next_of a r.cells r.walk t).moved.offer))

-- how many of the calls over these tables, from a run on
unfoldable pub passes_made : Archives → List Table → Run → ℕ
passes_made a [] r = 0
passes_made a (t ∷ ts) r = cond (makes_pass a r t) 1 0 + passes_made a ts (step_run a t r)
