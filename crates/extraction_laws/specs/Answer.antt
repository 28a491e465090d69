-- The answer of admission, and in the old profile what it is beside the gABI's extraction.
-- Assumes nothing.
use Rattle.link.specs.declared.cause.Refusal.{Refusal}
use Rattle.std.specs.Prelude.{ℕ, Bool, true, false, not, ◌&&◌, ◌||◌, Result, Ok}
use mathlib.Core.List.{List}
use Rattle.gabi.specs.StringTable as Strings
use Rattle.gabi.specs.Archive.{Named, extracts}
use Rattle.extraction_laws.specs.Taken.{taken}

-- the two answers
abbrev pub says : Bool → Result Bool Refusal
says true = Ok true
says false = Ok false

-- "Weak references pull members": a symbol of binding 1 bears a name that the member defines and that has weak references only
abbrev pub pulled_weakly : (List ℕ → Bool) → List Named → Bool
pulled_weakly weakly member = taken weakly member

-- "a weak definition doesn't admit one": every wanted name that the member defines is borne by weak symbols only
abbrev pub only_weakly_offered : List (List ℕ) → List Named → Bool
only_weakly_offered wanted member = not (taken (λ x. Strings.among x wanted) member)

-- beside them the answer is the gABI's
abbrev pub admitted : List (List ℕ) → (List ℕ → Bool) → List Named → Bool
admitted wanted weakly member = (extracts member wanted && not (only_weakly_offered wanted member)) || pulled_weakly weakly member
