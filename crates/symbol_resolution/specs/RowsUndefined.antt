-- Undefined rows by their own weak flag: document 01's "undefined and strong".
-- Assumes nothing.
use Rattle.std.specs.Prelude.{ℕ, Bool, true, false, cond, List, eqb}
use Rattle.link.specs.declared.SymbolId.{SymbolId}
use Rattle.symbol.specs.Row.{scope_at, kind_at}
use Rattle.symbol.specs.Layout.{global, global_hidden, undefined_kind}

abbrev pub undefined_row : List ℕ → SymbolId → Bool
undefined_row symbols id = eqb (kind_at symbols id.0) undefined_kind

-- "undefined and strong in the table": global, hidden or not, by the row's own weak flag
unfoldable pub strong_undefined : List ℕ → SymbolId → Bool
strong_undefined symbols id =
    cond (undefined_row symbols id)
    (cond (eqb (scope_at symbols id.0) global) true (cond (eqb (scope_at symbols id.0) global_hidden) true false)) false
