-- What admission (`matches`) answers about an object that is taken for the member of an entry of a walk.
-- Assumes nothing.
use Rattle.link.specs.declared.cause.Refusal.{Refusal}
use Rattle.std.specs.Prelude.{ℕ, Bool, List, Result}
use Rattle.archive_laws.specs.Runs.{Run}
use Rattle.merge_laws.specs.Calls.{Linked}
use Rattle.link_laws.specs.Calls.{matches, call_left}

-- what `matches` answers about entry e of a run, for an object; of the link its profile counts
abbrev pub answer_in : List ℕ → List ℕ → List ℕ → List ℕ → List ℕ → Run → ℕ → Linked → Result Bool Refusal
answer_in headers entries contents file index r e s = call_left (matches headers entries contents file index r.cells r.walk e) s
