-- Names by the symbols accepted under them, in the gABI's terms: which rows are undefined, and names with weak references only.
-- Assumes nothing.
use Rattle.std.specs.Prelude.{ℕ, Bool, false, List, [], ◌∷◌, eqb}
use Rattle.gabi.specs.SymbolTable.{Sym}
use Rattle.symbol.specs.declared.Row.{Row}
use Rattle.interner_laws.specs.Good.{find}
use Rattle.symbol_laws.specs.History.{State, store, Entry, only, rows}
use Rattle.symbol_laws.specs.Gabi.{syms_of}
use Rattle.extraction_laws.specs.Wanted.{weak_only}

-- 7 is the kind of an undefined value
abbrev pub is_undefined_row : Row → Bool
is_undefined_row r = eqb r.value.kind 7

-- the symbols that were accepted under the name b
abbrev pub symbols_under : State → List Entry → List ℕ → List Sym
symbols_under s past b = syms_of (rows (only (find (store s) b) past))

-- symbols, and weak references only
abbrev pub weak_references : List Sym → Bool
weak_references [] = false
weak_references (g ∷ gs) = weak_only (g ∷ gs)
