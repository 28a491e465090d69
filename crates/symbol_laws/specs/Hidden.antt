-- Visibility against the gABI, in the old profile: the row's is its holder's own, and "hidden isn't passed on to another holder" is the whole difference.
-- Assumes nothing.
use Rattle.std.specs.Prelude.{ℕ, ◌≡◌, Bool, false, cond, not, ◌||◌, List, [], ◌∷◌, ◌++◌, eqb}
use Rattle.gabi.specs.SymbolTable.{Sym, stv_default, stv_hidden}
use Rattle.symbol.specs.declared.Row.{Row}
use Rattle.symbol.specs.declared.SymbolVisibility.{SymbolVisibility}
use Rattle.symbol.specs.declared.SymbolVisibility.TheVariants.{Local, Global}
use Rattle.symbol.specs.Codes.{visibility_at}
use Rattle.symbol_laws.specs.Rank.{ranked, FirstOfGreatestRank}

abbrev pub hides : SymbolVisibility → Bool
hides Local = false
hides (Global weak hidden) = hidden

abbrev pub is_hidden : Row → Bool
is_hidden r = hides (visibility_at r.scope)

abbrev pub some_hidden : List Row → Bool
some_hidden [] = false
some_hidden (r ∷ rs) = is_hidden r || some_hidden rs

-- the rows are hidden just where their symbols are, whose visibilities are 0 and 2
abbrev pub AllShow : List Row → List Sym → Type 0
AllShow [] [] = Unit {0}
AllShow [] (s ∷ ss) = ⊥
AllShow (r ∷ rs) [] = ⊥
AllShow (r ∷ rs) (s ∷ ss) = (is_hidden r ≡ eqb s.visibility stv_hidden) × (eqb s.visibility stv_default ≡ not (eqb s.visibility stv_hidden)) × AllShow rs ss

abbrev pub attribute : Bool → ℕ
attribute h = cond h stv_hidden stv_default

-- "hidden isn't passed on to another holder": an add of the name other than its holder's is hidden
abbrev pub not_passed_on : {rs : List Row} {r : Row} → FirstOfGreatestRank (ranked false) rs r → Bool
not_passed_on f = some_hidden (f.before ++ f.after)
