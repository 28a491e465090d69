-- What an object's symbol says, in document 01's words: type, weak and hidden, and the value through the object's own sections and groups.
-- Assumes nothing.
use Prim.Native.Nat.{ℕ, ◌+◌, ◌^◌, ◌<◌}
use Rattle.std.proofs.Math.Path.{◌≡◌}
use Rattle.std.specs.Prelude.{Bool, ◌&&◌, ◌≢◌, ℤ, eqb, length}
use Rattle.std.proofs.Math.Bool.{true, false}
use mathlib.Core.List.{List}
use Rattle.gabi.specs.StringTable.{name_at}
use Rattle.gabi.specs.SymbolTable.{stb_local, stb_weak, shn_undef, shn_loreserve, shn_abs, shn_common}
use Rattle.symbol.specs.declared.Row.{Row}
use Rattle.symbol.specs.declared.SymbolVisibility.TheVariants.{Local}
use Rattle.symbol.specs.declared.SymbolValue.{SymbolValue}
use Rattle.symbol.specs.declared.SymbolValue.TheVariants as Val
use Rattle.symbol.specs.Codes.{type_at, visibility_at, value_at}
use Rattle.symbol_laws.specs.ObjectWords.{sections_in, is_section, is_excluded, entry, entry_name, entry_size}
use Rattle.symbol_laws.specs.DirectContents.{IsAlignment}
use Rattle.symbol_laws.specs.ContentWords.{IsType, IsOffset, Admitted, shows}
use Rattle.merge_laws.specs.MergeWords.{is_rowed, rowed_below, symbol_names, is_removed}

module _ (headers entries contents file : List ℕ) (count : ℕ) (met : List (List ℕ)) (table : List ℕ) (i : ℕ) where
  abbrev pub section : ℕ
  section = (entry table i).section

  -- a repeated group lists its section
  abbrev pub is_discarded : Bool
  is_discarded = is_removed headers entries contents file met (sections_in headers) section

  abbrev pub name_bytes : List ℕ
  name_bytes = name_at (symbol_names headers file (sections_in headers)) (entry_name table i)

  -- "An empty name with value 0"
  abbrev pub is_bare : Bool
  is_bare = eqb (length name_bytes) 0 && eqb (entry table i).value 0

  -- "Undefined and weak gives `default_zero`"
  abbrev pub reference : SymbolValue
  reference = Val.Undefined (eqb (entry table i).binding stb_weak)

  pub data IsValue : SymbolValue → Type 0 where
    undefined : section ≡ shn_undef → IsValue reference
    -- "Non-local symbols there become undefined"
    discarded : section < shn_loreserve → is_discarded ≡ true → IsValue reference
    absolute : section ≡ shn_abs → IsValue (Val.Absolute (entry table i).value)
    -- 2026-06: its alignment is its value field
    common : section ≡ shn_common → (entry table i).binding ≢ stb_local → ((entry table i).value < 2 ^ 64 → IsAlignment (entry table i).value) → IsValue (Val.Common (entry table i).value)
    -- "Non-excluded sections other than kinds 1 and 2 are "not loaded", which is a definition"
    unloaded : section ≢ shn_undef → section ≢ shn_common → is_discarded ≡ false → is_section headers section ≡ true → is_excluded headers section ≡ false → is_rowed headers section ≡ false → IsValue Val.SectionNotLoaded
    -- "An empty name with value 0 gives `Section`"
    whole : section ≢ shn_undef → section ≢ shn_common → is_discarded ≡ false → is_rowed headers section ≡ true → is_bare ≡ true → IsValue (Val.Section (record { 0 = count + rowed_below headers section }))
    -- "A value in a section becomes a signed offset"
    within : (z : ℤ) → section ≢ shn_undef → section ≢ shn_common → is_discarded ≡ false → is_rowed headers section ≡ true → is_bare ≡ false → IsOffset (entry table i).value z → IsValue (Val.SectionRelative (record { 0 = count + rowed_below headers section }) z)

  pub record Content (r : Row) : Type 0 where
    pub passed : Admitted (entry table i)
    pub type : IsType (entry table i).type (type_at r.kind)
    pub shown : visibility_at r.scope ≡ shows (entry table i)
    pub value : IsValue (value_at r.value)
    pub size : r.size ≡ entry_size table i

  -- of a local symbol
  pub record LocalContent (r : Row) : Type 0 where
    pub bound : (entry table i).binding ≡ stb_local
    pub type : IsType (entry table i).type (type_at r.kind)
    pub shown : visibility_at r.scope ≡ Local
    pub value : IsValue (value_at r.value)
    pub size : r.size ≡ entry_size table i

  -- "undefined" by now
  pub data IsUndefined : Type 0 where
    nowhere : section ≡ shn_undef → IsUndefined
    repeated : section < shn_loreserve → is_discarded ≡ true → IsUndefined

  -- "The first symbol, if named empty, undefined and of type 0"
  pub record IsNull : Type 0 where
    pub first : i ≡ 0
    pub bare : length name_bytes ≡ 0
    pub type : (entry table i).type ≡ 0
    pub undefined : IsUndefined
