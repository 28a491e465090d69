-- The hidden half of a scope, and how it passes from one row to another in the gABI profile.
-- Assumes nothing.
use Rattle.std.specs.Prelude.{ℕ, Bool, true, false, cond, eqb}
use Rattle.symbol.specs.declared.Row.{Row}
use Rattle.symbol.specs.declared.SymbolVisibility.{SymbolVisibility}
use Rattle.symbol.specs.declared.SymbolVisibility.TheVariants.{Local, Global}
use Rattle.symbol.specs.Layout.{global, global_hidden, weak, weak_hidden}

-- ---- of a visibility. What isn't global is neither weak nor hidden, and becomes a strong global where it is hidden or shown

abbrev pub weak_in : SymbolVisibility → Bool
weak_in Local = false
weak_in (Global w h) = w

abbrev pub hidden_in : SymbolVisibility → Bool
hidden_in Local = false
hidden_in (Global w h) = h

abbrev pub hide_in : SymbolVisibility → SymbolVisibility
hide_in v = Global (weak_in v) true

abbrev pub show_in : SymbolVisibility → SymbolVisibility
show_in v = Global (weak_in v) false

-- ---- of its code

unfoldable pub hidden_code : ℕ → Bool
hidden_code v = cond (eqb v global_hidden) true (cond (eqb v weak_hidden) true false)

-- the code of the same binding, hidden and shown. Total: what is no code of a name's row counts as global
unfoldable pub hide_code : ℕ → ℕ
hide_code v = cond (eqb v weak) weak_hidden (cond (eqb v weak_hidden) weak_hidden global_hidden)

unfoldable pub show_code : ℕ → ℕ
show_code v = cond (eqb v weak) weak (cond (eqb v weak_hidden) weak global)

-- in the gABI profile hidden passes from what has such a code
unfoldable pub passes : Bool → ℕ → Bool
passes gabi v = cond gabi (hidden_code v) false

abbrev pub with_scope : Row → ℕ → Row
with_scope r v = record { name = r.name; kind = r.kind; file = r.file; scope = v; value = r.value; size = r.size }

unfoldable pub hide_if : Bool → Row → Row
hide_if h r = cond h (with_scope r (hide_code r.scope)) r

-- "hidden on any accepted add from an object passes to the name's row": from what has code v to row r
unfoldable pub pass_hidden : Bool → ℕ → Row → Row
pass_hidden gabi v r = hide_if (passes gabi v) r
