-- Which values are undefined, and which visibilities are strong.
-- Assumes nothing.
use Rattle.std.specs.Prelude.{Bool, false}
use Rattle.std.proofs.Math.Bool.{true}
use Rattle.symbol.specs.declared.SymbolVisibility.{SymbolVisibility}
use Rattle.symbol.specs.declared.SymbolVisibility.TheVariants.{Local, Global}
use Rattle.symbol.specs.declared.SymbolValue.{SymbolValue}
use Rattle.symbol.specs.declared.SymbolValue.TheVariants as Val

abbrev pub is_undefined : SymbolValue → Bool
is_undefined Val.Null = false
is_undefined (Val.Absolute v) = false
is_undefined (Val.Section s) = false
is_undefined (Val.SectionRelative s z) = false
is_undefined (Val.SectionVirtualAddress s v) = false
is_undefined Val.SectionNotLoaded = false
is_undefined Val.ExternallyDefined = false
is_undefined (Val.Undefined zero) = true
is_undefined (Val.Common alignment) = false

abbrev pub is_strong : SymbolVisibility → Bool
is_strong Local = false
is_strong (Global true hidden) = false
is_strong (Global false hidden) = true
