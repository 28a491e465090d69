-- The contracts of a look at a name and of `matches`, which write nothing.
-- Assumes nothing.
use Rattle.link.specs.declared.cause.Refusal.{Refusal}
use Rattle.std.specs.Prelude.{ℕ, ◌≡◌, List, Result, Bool}
use Rattle.link.specs.declared.Link.{Link}
use Rattle.archive_walk.specs.declared.Walk.{Walk}
use Rattle.strings.specs.Lookup.{looked}
use Rattle.strings.specs.Contract.{StringExit}
use Rattle.elf_object.specs.declared.Object.{Object}
use Rattle.object_requirement.specs.declared.ObjectRequirement.{ObjectRequirement}
use Rattle.object_requirement.specs.Matches.{name_anywhere, matches_of}

abbrev pub AnywhereMeets : List ℕ → List ℕ → ℕ → ℕ → StringExit → Type 0
AnywhereMeets headers image n offset e = looked e.result e.found ≡ name_anywhere headers image n offset

abbrev pub MatchesMeets : Link → List ℕ → List ℕ → List ℕ → List ℕ → List ℕ → List ℕ → Walk → ℕ → Result Bool Refusal → Type 0
MatchesMeets l headers entries contents image index cells w e r = r ≡ matches_of l headers entries contents image index cells w e

-- of an object and a requirement as they are lent
abbrev pub ObjectMeets : Link → Object → ObjectRequirement → Result Bool Refusal → Type 0
ObjectMeets l o q r =
    MatchesMeets l o.headers.now o.entries.now o.contents.now o.image.now q.entries.index.now q.entries.cells.now q.walk q.entry r
