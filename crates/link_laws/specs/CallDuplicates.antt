-- 17 against the gABI: where its resolution sees a duplicate in a further row, and which rows may be refused so at all.
-- Assumes nothing.
use Rattle.std.specs.Prelude.{◌≡◌, false, List, [], ◌∷◌, ◌++◌, ◌≢◌}
use Rattle.gabi.specs.Resolution.{duplicate, resolve}
use Rattle.symbol.specs.declared.Row.{Row}
use Rattle.symbol.specs.Row.{scope_refused, value_refused}
use Rattle.symbol_laws.specs.History.{Entry, only, rows}
use Rattle.symbol_laws.specs.Gabi.{sym_of_row, syms_of}

-- what the gABI makes of the accepted adds of the row's name, and the row behind them
abbrev pub IsDuplicate : List Entry → Row → Type 0
IsDuplicate past r = resolve (syms_of (rows (only r.name.0 past)) ++ (sym_of_row r ∷ [])) ≡ duplicate

-- a row that may be refused with 17: global, and its binding, visibility and value pass
pub record Judges (r : Row) : Type 0 where
  pub global : r.scope ≢ 0
  pub passes : scope_refused r ≡ false
  pub valued : value_refused r ≡ false
