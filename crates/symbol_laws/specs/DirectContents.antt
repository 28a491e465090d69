-- What a direct add says of the row that it makes, in document 01's words, kind of symbol by kind. Null and `Section` are local, so not here.
-- Assumes nothing.
use Prim.Native.Nat.{ℕ, ◌+◌, ◌^◌, ◌<◌, ◌≤◌}
use Rattle.std.specs.Prelude.{◌≡◌, Bool, true, false, ◌&&◌, List, ◌≢◌, ℤ, eqb, get_or, Option, None, Some}
use Rattle.std.proofs.Common.{SFits}
use Rattle.std.specs.Int.{w64}
use Rattle.gabi.specs.SymbolTable.{Sym, stb_local, stb_weak, stv_hidden, shn_undef, shn_abs, shn_common}
use Rattle.link.specs.declared.Interned.{Interned}
use Rattle.link.specs.Bounds.{not_lent}
use Rattle.symbol.specs.declared.Row.{Row}
use Rattle.symbol.specs.declared.SymbolType.TheVariants as Ty
use Rattle.symbol.specs.declared.SymbolVisibility.TheVariants.{Global}
use Rattle.symbol.specs.declared.SymbolValue.{SymbolValue}
use Rattle.symbol.specs.declared.SymbolValue.TheVariants as Val
use Rattle.symbol.specs.Codes.{type_at, visibility_at, value_at, file_at}
use Rattle.upcoming_symbol.specs.declared.ElfSymbol.{ElfSymbol}
use Rattle.upcoming_symbol.specs.declared.UpcomingSymbol.{UpcomingSymbol}
use Rattle.upcoming_symbol.specs.declared.UpcomingSymbol.TheVariants as Up
use Rattle.symbol_laws.specs.ContentWords.{IsType, IsOffset, Admitted, shows, shared_entry}

-- ---- the words

-- "alignment zero or no power of two" is refused: it is 2 ^ k for a k up to 63
abbrev pub IsAlignment : ℕ → Type 0
IsAlignment a = (k : ℕ) × ((k ≤ 63) × (a ≡ 2 ^ k))

-- "A direct add is lent its conversion: for each section number an id, "not loaded" or nothing (14)"
pub data ElfValue (conversion : List ℕ) (empty : Bool) (e : ElfSymbol) : SymbolValue → Type 0 where
  undefined : e.section ≡ shn_undef → ElfValue conversion empty e (Val.Undefined (eqb e.binding stb_weak))
  absolute : e.section ≡ shn_abs → ElfValue conversion empty e (Val.Absolute e.value)
  -- 2026-06: its alignment is its value field
  common : e.section ≡ shn_common → e.binding ≢ stb_local → (e.value < 2 ^ 64 → IsAlignment e.value) → ElfValue conversion empty e (Val.Common e.value)
  unloaded : e.section ≢ shn_undef → e.section ≢ shn_common → get_or conversion e.section 0 ≡ 1 → ElfValue conversion empty e Val.SectionNotLoaded
  whole : (id : ℕ) → e.section ≢ shn_undef → e.section ≢ shn_common → get_or conversion e.section 0 ≡ id + 2 → empty && eqb e.value 0 ≡ true → ElfValue conversion empty e (Val.Section (record { 0 = id }))
  within : (id : ℕ) (z : ℤ) → e.section ≢ shn_undef → e.section ≢ shn_common → get_or conversion e.section 0 ≡ id + 2 → empty && eqb e.value 0 ≡ false → IsOffset e.value z → ElfValue conversion empty e (Val.SectionRelative (record { 0 = id }) z)

-- an offset is a number of 64 bits
abbrev pub Fitting : SymbolValue → Type 0
Fitting Val.Null = Unit {0}
Fitting (Val.Absolute v) = Unit {0}
Fitting (Val.Section s) = Unit {0}
Fitting (Val.SectionRelative s z) = SFits w64 z
Fitting (Val.SectionVirtualAddress s v) = Unit {0}
Fitting Val.SectionNotLoaded = Unit {0}
Fitting Val.ExternallyDefined = Unit {0}
Fitting (Val.Undefined default) = Unit {0}
Fitting (Val.Common alignment) = Unit {0}

abbrev pub is_undefined : SymbolValue → Bool
is_undefined Val.Null = false
is_undefined (Val.Absolute v) = false
is_undefined (Val.Section s) = false
is_undefined (Val.SectionRelative s z) = false
is_undefined (Val.SectionVirtualAddress s v) = false
is_undefined Val.SectionNotLoaded = false
is_undefined Val.ExternallyDefined = false
is_undefined (Val.Undefined default) = true
is_undefined (Val.Common alignment) = false

abbrev pub is_common_value : SymbolValue → Bool
is_common_value Val.Null = false
is_common_value (Val.Absolute v) = false
is_common_value (Val.Section s) = false
is_common_value (Val.SectionRelative s z) = false
is_common_value (Val.SectionVirtualAddress s v) = false
is_common_value Val.SectionNotLoaded = false
is_common_value Val.ExternallyDefined = false
is_common_value (Val.Undefined default) = false
is_common_value (Val.Common alignment) = true

-- an entry by its numbers
abbrev pub symbol_of : ℕ → ℕ → ℕ → ℕ → ℕ → Sym
symbol_of b t v s x = record { binding = b; type = t; visibility = v; section = s; value = x }

-- an id of a file's name is a number of 64 bits that has a successor
abbrev pub FileFits : Option Interned → Type 0
FileFits None = Unit {0}
FileFits (Some id) = id.0 < not_lent

-- its name is the one given, and so are its file's and its size; a kind of symbol that comes without a file or a size has none, or 0
pub record Labelled (r : Row) (name : Interned) (file : Option Interned) (size : ℕ) : Type 0 where
  pub named : r.name ≡ name
  pub filed : FileFits file → file_at r.file ≡ file
  pub sized : r.size ≡ size

-- gabi: the profile of the link that it is made on
pub data FromAdd (gabi : Bool) (conversion : List ℕ) (empty : Bool) (r : Row) : UpcomingSymbol → Type 0 where
  unknown : (name : Interned) → Labelled r name None 0 → type_at r.kind ≡ Ty.NoType → visibility_at r.scope ≡ Global false false → value_at r.value ≡ Val.Undefined false → FromAdd gabi conversion empty r (Up.GlobalUnknown name)
  hidden : (name : Interned) (value : SymbolValue) → Labelled r name None 0 → type_at r.kind ≡ Ty.NoType → visibility_at r.scope ≡ Global false true → (Fitting value → value_at r.value ≡ value) → is_undefined (value_at r.value) ≡ is_undefined value → is_common_value (value_at r.value) ≡ is_common_value value → FromAdd gabi conversion empty r (Up.GlobalHidden name value)
  external : (name : Interned) (visibility binding : ℕ) → Admitted (symbol_of binding 0 visibility shn_abs 0) → Labelled r name None 0 → type_at r.kind ≡ Ty.NoType → visibility_at r.scope ≡ shows (shared_entry gabi (symbol_of binding 0 visibility shn_abs 0)) → value_at r.value ≡ Val.ExternallyDefined
      → FromAdd gabi conversion empty r (Up.ExternallyDefined name visibility binding)
  elf : (e : ElfSymbol) (name : Interned) (file : Option Interned) → Admitted (symbol_of e.binding e.kind e.visibility e.section e.value) → Labelled r name file e.size → IsType e.kind (type_at r.kind) → visibility_at r.scope ≡ Global (eqb e.binding stb_weak) (eqb e.visibility stv_hidden) → ElfValue conversion empty e (value_at r.value)
      → FromAdd gabi conversion empty r (Up.Elf e name file)
