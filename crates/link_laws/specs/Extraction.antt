-- Which members a pass of a walk and admission take together, to be held against what the gABI extracts.
-- Assumes nothing.
use Rattle.std.specs.Prelude.{ℕ, Bool, ◌&&◌, List}
use Rattle.archive_index.specs.Archives.{Archives}
use Rattle.archive_walk.specs.Names.{required_of}
use Rattle.archive_laws.specs.Rounds.{among}
use Rattle.archive_laws.specs.Runs.{Run}
use Rattle.archive_laws.specs.Walked.{queue_in}
use Rattle.object_requirement.specs.Matches.{has_global_symbol}

-- the pass queues the member of entry e, and admission over its required names says yes to the object, in that profile
abbrev pub chosen_in : Bool → Archives → Run → ℕ → List ℕ → List ℕ → List ℕ → Bool
chosen_in gabi archives r e headers entries file =
    among archives e (queue_in r) && has_global_symbol gabi headers entries file (required_of archives.bytes r.cells r.walk e)
