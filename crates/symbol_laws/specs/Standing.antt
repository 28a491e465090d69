-- Hidden and the rest of a row: hidden passes from row to row in the gABI profile, and is never lost; commons are joined.
-- Assumes nothing.
use Rattle.std.specs.Prelude.{◌≡◌, Bool, cond, List, ◌∷◌, ltb}
use Rattle.std.proofs.Math.Bool.{true, false}
use Rattle.symbol.specs.declared.Row.{Row}
use Rattle.symbol.specs.declared.SymbolVisibility.{SymbolVisibility}
use Rattle.symbol.specs.declared.SymbolVisibility.TheVariants.{Local, Global}
use Rattle.symbol.specs.Hidden.{hide_if, pass_hidden}
use Rattle.symbol_resolution.specs.Apply.{joined}
use Rattle.symbol_laws.specs.Rank.{ranked, best, weak, joined_in}
use Rattle.symbol_laws.specs.Hidden.{some_hidden}

-- all but the hidden half of the visibility
pub record SameButHidden (r q : Row) : Type 0 where
  pub name : r.name ≡ q.name
  pub kind : r.kind ≡ q.kind
  pub file : r.file ≡ q.file
  pub weakness : weak r ≡ weak q
  pub value : r.value ≡ q.value
  pub size : r.size ≡ q.size

-- ---- of a list of adds

-- r, by the adds of its name: as it is in the old profile, hidden if one of them is in gABI's
abbrev pub hidden_by : Bool → List Row → Row → Row
hidden_by false l r = r
hidden_by true l r = hide_if (some_hidden l) r

-- ---- what stands after an accepted add

-- of row c and add x the one of the greater rank, hidden passed to it from the other; of two commons the first, joined with the other
abbrev pub standing : Bool → Row → Row → Row
standing gabi c x = cond (ltb (ranked gabi c) (ranked gabi x)) (pass_hidden gabi c.scope x) (pass_hidden gabi x.scope (joined c x))

-- and after all accepted adds of a name, c and then xs
abbrev pub row_after : Bool → Row → List Row → Row
row_after gabi c xs = hidden_by gabi (c ∷ xs) (joined_in (c ∷ xs) (best (ranked gabi) c xs))

abbrev pub unhidden : SymbolVisibility → SymbolVisibility
unhidden Local = Local
unhidden (Global weak hidden) = Global weak false
