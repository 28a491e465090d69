-- Names that have weak references only.
-- Assumes nothing.
use Rattle.std.specs.Prelude.{Bool, true, false, List}
use Rattle.gabi.specs.SymbolTable.{Sym}
use Rattle.gabi.specs.Resolution.{Resolution, defined, common, duplicate, unresolved, zero_value, resolve}

-- weak references, and nothing else
abbrev pub is_zero_value : Resolution → Bool
is_zero_value (defined k) = false
is_zero_value (common k) = false
is_zero_value duplicate = false
is_zero_value unresolved = false
is_zero_value zero_value = true

unfoldable pub weak_only : List Sym → Bool
weak_only l = is_zero_value (resolve l)
