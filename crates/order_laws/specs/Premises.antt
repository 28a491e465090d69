-- Document 02, 2026-14, "Link order and the mixer": what a list of adds has to be, premise by premise, in the document's words.
-- Assumes nothing.
use Rattle.std.specs.Prelude.{ℕ, ◌+◌, ◌<◌, ◌≤◌, ◌≡◌, Bool, false, ◌&&◌, List, ◌≢◌, eqb, length, get_or, Option, None, Some, All, Contains, count_by}
use Rattle.gabi.specs.SymbolTable.{stb_local, stb_weak, stt_section, stv_default, stv_hidden, shn_undef, shn_loreserve, shn_abs, shn_common, is_local, is_global, is_definition}
use Rattle.link.specs.declared.Interned.{Interned}
use Rattle.link.specs.declared.SectionId.{SectionId}
use Rattle.link.specs.Bounds.{symbol_rows}
use Rattle.symbol.specs.declared.SymbolValue.TheVariants as Val
use Rattle.upcoming_symbol.specs.declared.ElfSymbol.{ElfSymbol}
use Rattle.upcoming_symbol.specs.declared.UpcomingSymbol.{UpcomingSymbol}
use Rattle.upcoming_symbol.specs.declared.UpcomingSymbol.TheVariants.{Null, GlobalUnknown, GlobalHidden, Section, ExternallyDefined, Elf}
use Rattle.symbols.specs.Add.{empty_at}
use Rattle.symbol_laws.specs.Gabi.{sym_of}
use Rattle.symbol_laws.specs.DirectContents.{ElfValue}
use Rattle.symbol_laws.specs.History.{State}

-- ---- each add of the list: a symbol row's entry, with the ids of its name and of its file's

-- "types 0 to 3"
abbrev pub TypeInRange : ElfSymbol → Type 0
TypeInRange e = e.kind ≤ stt_section

-- "no commons": section 0xfff2. A premise of its own: a common passes (2026-06), so that "sections that pass" alone would let it in, and the commons of a name are
-- joined by order, the first keeping its content. SectionPasses doesn't have section 0xfff2 either
abbrev pub NoCommon : ElfSymbol → Type 0
NoCommon e = e.section ≢ shn_common

-- "issued names": its own and its file's
abbrev pub NameIssued : State → Interned → Type 0
NameIssued s name = name.0 < s.link.names

abbrev pub FileIssued : State → Option Interned → Type 0
FileIssued s None = Unit {0}
FileIssued s (Some file) = NameIssued s file

-- "bindings, visibility [..] that pass": local, global or weak; default or hidden, but no local one hidden
pub data ScopePasses (e : ElfSymbol) : Type 0 where
  shown : e.visibility ≡ stv_default → e.binding ≤ stb_weak → ScopePasses e
  hidden : e.visibility ≡ stv_hidden → e.binding ≤ stb_weak → e.binding ≢ stb_local → ScopePasses e

-- "[..] and sections that pass": undefined, absolute, or a section's number to which the conversion gives an id or "not loaded"
pub data SectionPasses (conversion : List ℕ) (e : ElfSymbol) : Type 0 where
  undefined : e.section ≡ shn_undef → SectionPasses conversion e
  absolute : e.section ≡ shn_abs → SectionPasses conversion e
  converted : e.section < shn_loreserve → get_or conversion e.section 0 ≢ 0 → SectionPasses conversion e

-- "A local `Section` row becomes its section's symbol": the section has the cell for that
abbrev pub SectionCell : State → List ℕ → ElfSymbol → Interned → Type 0
SectionCell s conversion e name =
    e.binding ≡ stb_local → (id : SectionId) → ElfValue conversion (empty_at s.names name) e (Val.Section id) → id.0 < s.link.slots

pub record EntryPasses (s : State) (conversion : List ℕ) (e : ElfSymbol) (name : Interned) (file : Option Interned) : Type 0 where
  pub type : TypeInRange e
  pub no_common : NoCommon e
  pub named : NameIssued s name
  pub filed : FileIssued s file
  pub scope : ScopePasses e
  pub section : SectionPasses conversion e
  pub cell : SectionCell s conversion e name

-- ---- the list

-- the other kinds of a direct add aren't rows of a list
abbrev pub RowIs : (ElfSymbol → Interned → Option Interned → Type 0) → UpcomingSymbol → Type 0
RowIs P Null = ⊥
RowIs P (GlobalUnknown name) = ⊥
RowIs P (GlobalHidden name value) = ⊥
RowIs P (Section section) = ⊥
RowIs P (ExternallyDefined name visibility binding) = ⊥
RowIs P (Elf e name file) = P e name file

abbrev pub row_is : (ElfSymbol → Interned → Bool) → UpcomingSymbol → Bool
row_is test Null = false
row_is test (GlobalUnknown name) = false
row_is test (GlobalHidden name value) = false
row_is test (Section section) = false
row_is test (ExternallyDefined name visibility binding) = false
row_is test (Elf e name file) = test e name

abbrev pub Passes : State → List ℕ → UpcomingSymbol → Type 0
Passes s conversion = RowIs (EntryPasses s conversion)

-- a row of that name whose entry is such
abbrev pub adds_to : Interned → (ElfSymbol → Bool) → UpcomingSymbol → Bool
adds_to name test = row_is (λ e n. eqb n.0 name.0 && test e)

-- of an absolute value or "not loaded" too; "no commons" leaves commons out
abbrev pub is_strong_definition : ElfSymbol → Bool
is_strong_definition e = is_global (sym_of e) && is_definition (sym_of e)

-- "at most one strong definition per name"
abbrev pub OneStrong : List UpcomingSymbol → Type 0
OneStrong us = (name : Interned) → count_by (adds_to name is_strong_definition) us ≤ 1

abbrev pub is_local_add : UpcomingSymbol → Bool
is_local_add = row_is (λ e name. is_local (sym_of e))

-- "rows enough": the null symbol's, one for each local add, and one for each name of the others
pub record RowsEnough (s : State) (us : List UpcomingSymbol) : Type 0 where
  pub names : List ℕ
  pub among : All (RowIs (λ e name file. is_local (sym_of e) ≡ false → Contains names name.0)) us
  pub enough : 1 + (count_by is_local_add us + length names) ≤ symbol_rows (length s.symbols)

pub record Premises (s : State) (conversion : List ℕ) (us : List UpcomingSymbol) : Type 0 where
  pub each : All (Passes s conversion) us
  pub one_strong : OneStrong us
  pub rows : RowsEnough s us
