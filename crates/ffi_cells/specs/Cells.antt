-- A symbol that was found, and one that is to be added, in lent cells.
-- Assumes nothing.
use Rattle.std.specs.Prelude.{ℕ, Bool, true, false, cond, List, [], ◌∷◌, eqb, ltb, get_or, set, length}
use Rattle.cells.specs.Rows.{put_row}
use Rattle.link.specs.declared.Interned.{Interned}
use Rattle.link.specs.declared.SymbolId.{SymbolId}
use Rattle.symbol.specs.declared.Symbol.{Symbol}
use Rattle.symbol.specs.declared.SymbolType.{SymbolType}
use Rattle.symbol.specs.declared.SymbolType.TheVariants as Ty
use Rattle.symbol.specs.declared.SymbolVisibility.{SymbolVisibility}
use Rattle.symbol.specs.declared.SymbolVisibility.TheVariants.{Local, Global}
use Rattle.symbol.specs.declared.Row.{Row}
use Rattle.symbol.specs.declared.Words.{Words}
use Rattle.symbol.specs.Codes.{file_at, file_cell, value_at, words_are, words_of}
use Rattle.symbol.specs.Layout.{common_kind}
use Rattle.upcoming_symbol.specs.declared.ElfSymbol.{ElfSymbol}
use Rattle.upcoming_symbol.specs.declared.UpcomingSymbol.{UpcomingSymbol}
use Rattle.upcoming_symbol.specs.declared.UpcomingSymbol.TheVariants.{Null, GlobalUnknown, GlobalHidden, Section, ExternallyDefined, Elf}
use Rattle.upcoming_symbol.specs.Upcoming.{row_are}

-- ---- a symbol that was found: the codes of its row

abbrev pub type_code : SymbolType → ℕ
type_code Ty.NoType = 0
type_code Ty.Object = 1
type_code Ty.Function = 2
type_code Ty.Section = 3

unfoldable pub global_code : Bool → Bool → ℕ
global_code weak hidden = cond weak (cond hidden 4 3) (cond hidden 2 1)

abbrev pub scope_code : SymbolVisibility → ℕ
scope_code Local = 0
scope_code (Global weak hidden) = global_code weak hidden

unfoldable pub symbol_row : Symbol → Row
symbol_row s = row_are s.name (type_code s.kind) (file_cell s.file) (scope_code s.visibility) (words_of s.value) s.size

-- the id, 1 for a present row, then the row's fields, the size last
unfoldable pub row_out : List ℕ → SymbolId → Row → List ℕ
row_out out id r =
    set (set (put_row out 0 (id.0 ∷ 1 ∷ r.name.0 ∷ r.kind ∷ r.file ∷ r.scope ∷ r.value.kind ∷ r.value.a ∷ [])) 8 r.value.b) 9 r.size

unfoldable pub symbol_out : List ℕ → Symbol → List ℕ
symbol_out out s = row_out out s.id (symbol_row s)

-- ---- a symbol that is to be added: nine cells, the variant and its fields

-- the variants' numbers; 0 is the null symbol
abbrev pub unknown_variant : ℕ
unknown_variant = 1

abbrev pub hidden_variant : ℕ
hidden_variant = 2

abbrev pub section_variant : ℕ
section_variant = 3

abbrev pub external_variant : ℕ
external_variant = 4

abbrev pub elf_variant : ℕ
elf_variant = 5

abbrev pub variant_of : List ℕ → ℕ
variant_of item = get_or item 0 0

-- an unknown variant, or an unknown kind of value, is no symbol
unfoldable pub is_item : List ℕ → Bool
is_item item =
    cond (ltb (length item) 9) false
    (cond (ltb elf_variant (variant_of item)) false (cond (eqb (variant_of item) hidden_variant) (cond (ltb common_kind (get_or item 2 0)) false true) true))

unfoldable pub name_in : List ℕ → ℕ → Interned
name_in item i = record { 0 = get_or item i 0 }

abbrev pub words_in : List ℕ → Words
words_in item = words_are (get_or item 2 0) (get_or item 3 0) (get_or item 4 0)

abbrev pub elf_in : List ℕ → ElfSymbol
elf_in item =
    record {
      binding = get_or item 1 0;
      visibility = get_or item 2 0;
      kind = get_or item 3 0;
      section = get_or item 4 0;
      value = get_or item 5 0;
      size = get_or item 8 0;
    }

unfoldable pub item_in : List ℕ → UpcomingSymbol
item_in item =
    cond (eqb (variant_of item) unknown_variant) (GlobalUnknown (name_in item 1))
    (cond (eqb (variant_of item) hidden_variant) (GlobalHidden (name_in item 1) (value_at (words_in item)))
    (cond (eqb (variant_of item) section_variant) (Section (record { 0 = get_or item 1 0 }))
    (cond (eqb (variant_of item) external_variant) (ExternallyDefined (name_in item 1) (get_or item 2 0) (get_or item 3 0))
    (cond (eqb (variant_of item) elf_variant) (Elf (elf_in item) (name_in item 6) (file_at (get_or item 7 0))) Null))))
