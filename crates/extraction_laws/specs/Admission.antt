-- Whether an object has a symbol that admits it, by profile.
-- Assumes nothing.
use Rattle.std.specs.Prelude.{ℕ, Bool, ◌&&◌, List}
use Rattle.gabi.specs.SymbolTable.{is_global}
use Rattle.gabi.specs.Archive.{Named, offers}
use Rattle.extraction_laws.specs.Some.{some}

-- one of the symbols has binding 1 and a name of which f holds
abbrev pub bears_one : (List ℕ → Bool) → List Named → Bool
bears_one f member = some (λ d. is_global d.symbol && f d.name) member

-- one of the symbols is a definition, global or weak, of a name of which f holds
abbrev pub defines_one : (List ℕ → Bool) → List Named → Bool
defines_one f member = some (λ d. offers d.symbol && f d.name) member
