-- The row of a name against the gABI's resolution of the symbols that were added under it.
-- Assumes nothing.
use Rattle.std.specs.Prelude.{◌≡◌, true, not, eqb}
use Rattle.std.proofs.Math.Bool.{cond}
use mathlib.Core.List.{List, [], ◌∷◌}
use Rattle.gabi.specs.SymbolTable.{Sym, stb_global, stb_weak, shn_undef, shn_abs, shn_common, is_global, is_weak, is_reference, is_common}
use Rattle.symbol.specs.declared.Row.{Row}
use Rattle.upcoming_symbol.specs.declared.ElfSymbol.{ElfSymbol}
use Rattle.symbol_laws.specs.Rank.{weak, common}
use Rattle.symbol_laws.specs.Hidden.{is_hidden, attribute}

-- ---- a row and the symbol that it stands for

pub record Means (r : Row) (s : Sym) : Type 0 where
  pub refers : eqb r.value.kind 7 ≡ is_reference s
  pub commonly : common r ≡ is_common s
  pub weakly : weak r ≡ is_weak s
  pub bound : is_global s ≡ not (is_weak s)

-- the word of an undefined value: a weak reference reads as zero. So it is of every Elf symbol (elf-zeroes); a symbol that is added in another way
-- chooses it freely
abbrev pub Zeroes : Row → Sym → Type 0
Zeroes r s = is_reference s ≡ true → r.value.a ≡ cond (is_weak s) 1 0

abbrev pub AllMean : List Row → List Sym → Type 0
AllMean [] [] = Unit {0}
AllMean [] (s ∷ ss) = ⊥
AllMean (r ∷ rs) [] = ⊥
AllMean (r ∷ rs) (s ∷ ss) = Means r s × AllMean rs ss

-- the symbol that a row stands for: its binding, its visibility, its type, and whether it is undefined or common. The gABI asks for no more: another
-- definition is given as absolute, of value 0
abbrev pub sym_of_row : Row → Sym
sym_of_row r =
    record {
      binding = cond (weak r) stb_weak stb_global;
      type = r.kind;
      visibility = attribute (is_hidden r);
      section = cond (eqb r.value.kind 7) shn_undef (cond (common r) shn_common shn_abs);
      value = 0;
    }

abbrev pub syms_of : List Row → List Sym
syms_of [] = []
syms_of (r ∷ rs) = sym_of_row r ∷ syms_of rs

-- the entry of a symbol table that an upcoming symbol carries
abbrev pub sym_of : ElfSymbol → Sym
sym_of e = record { binding = e.binding; type = e.kind; visibility = e.visibility; section = e.section; value = e.value }
