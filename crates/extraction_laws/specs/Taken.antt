-- What an index lists for a member, and which members a walk over such an index takes.
-- Assumes nothing.
use Rattle.std.specs.Prelude.{ℕ, Bool, cond, ◌&&◌}
use Rattle.std.proofs.Math.Bool.{false}
use mathlib.Core.List.{List, [], ◌∷◌}
use Rattle.gabi.specs.StringTable.{same_name, among}
use Rattle.gabi.specs.SymbolTable.{Sym, is_weak, is_definition}
use Rattle.gabi.specs.Archive.{Named, offers}
use Rattle.extraction_laws.specs.Some.{some}
use Rattle.extraction_laws.specs.Member.{admits_in}

-- the name x is in the index for this member: an index lists global and weak definitions
abbrev pub lists : List Named → List ℕ → Bool
lists member x = some (λ e. offers e.symbol && same_name e.name x) member

-- of the names in the index for the member those that tie it are required; a symbol that may admit it has to bear one, in the old profile a
-- global one
abbrev pub taken_in : Bool → (List ℕ → Bool) → List Named → Bool
taken_in gabi tied member = admits_in gabi (λ x. tied x && lists member x) member

abbrev pub taken : (List ℕ → Bool) → List Named → Bool
taken undefined member = taken_in false undefined member

-- a weak symbol that is a definition, common or not
abbrev pub weakly_defines : Sym → Bool
weakly_defines s = is_weak s && is_definition s

-- a weak definition of the member bears a wanted name
abbrev pub weak_offers : List (List ℕ) → List Named → Bool
weak_offers wanted member = some (λ e. weakly_defines e.symbol && among e.name wanted) member

abbrev pub wanted_names : (List ℕ → Bool) → List Named → List (List ℕ)
wanted_names wanted [] = []
wanted_names wanted (e ∷ member) = cond (wanted e.name) (e.name ∷ wanted_names wanted member) (wanted_names wanted member)
