-- Where a symbol leads, and which sections are roots by themselves: "retained sections, `.eh_frame`, and everything but readable program or
-- uninitialized sections".
-- Assumes nothing.
use Rattle.std.specs.Prelude.{ℕ, Bool, true, false, cond, List, [], ◌∷◌, eqb, leb, Option, None, Some}
use Rattle.byte_slices.specs.Bytes.{same}
use Rattle.link.specs.declared.SymbolId.{SymbolId}
use Rattle.link.specs.declared.SectionId.{SectionId}
use Rattle.interner.specs.Names.{name_at}
use Rattle.symbol.specs.Layout.{kind_cell, first_cell, removed_state, section_kind, relative_kind, address_kind}
use Rattle.symbol.specs.Row as Symbol
use Rattle.sections.specs.Rows.{name_id_at, kind_at, retain_at, read_at, is_built, program, uninitialized}

abbrev pub symbol_id : ℕ → SymbolId
symbol_id i = record { 0 = i }

abbrev pub section_id : ℕ → SectionId
section_id i = record { 0 = i }

-- the kind of a symbol's value, and the section that it lies in
abbrev pub value_kind_at : List ℕ → ℕ → ℕ
value_kind_at symbols i = Symbol.field symbols i kind_cell

abbrev pub value_section_at : List ℕ → ℕ → ℕ
value_section_at symbols i = Symbol.field symbols i first_cell

-- a section, relative to one, or an address in one: the value lies in section a
unfoldable pub value_lead : ℕ → ℕ → Option SectionId
value_lead kind a =
    cond (eqb kind section_kind) (Some (section_id a))
    (cond (eqb kind relative_kind) (Some (section_id a)) (cond (eqb kind address_kind) (Some (section_id a)) None))

-- "Symbols removed or absent lead nowhere"
unfoldable pub lead_of : List ℕ → ℕ → SymbolId → Option SectionId
lead_of symbols count id =
    cond (leb count id.0) None
    (cond (eqb (Symbol.state_at symbols id.0) removed_state) None (value_lead (value_kind_at symbols id.0) (value_section_at symbols id.0)))

-- `.eh_frame`
abbrev pub eh_frame : List ℕ
eh_frame = 46 ∷ 101 ∷ 104 ∷ 95 ∷ 102 ∷ 114 ∷ 97 ∷ 109 ∷ 101 ∷ []

-- a readable program or uninitialized section
unfoldable pub readable : List ℕ → ℕ → Bool
readable sections i =
    cond (eqb (read_at sections i) 0) false
    (cond (eqb (kind_at sections i) program) true (cond (eqb (kind_at sections i) uninitialized) true false))

unfoldable pub name_is : List ℕ → List ℕ → List ℕ → ℕ → List ℕ → Bool
name_is bytes names sections i x = same (name_at bytes names (name_id_at sections i)) x

unfoldable pub rooted : List ℕ → List ℕ → List ℕ → ℕ → Bool
rooted bytes names sections i =
    cond (readable sections i)
    (cond (eqb (retain_at sections i) 0) (name_is bytes names sections i eh_frame) true) true

unfoldable pub is_root : List ℕ → List ℕ → List ℕ → ℕ → ℕ → Bool
is_root bytes names sections n i = cond (is_built sections n i) (rooted bytes names sections i) false
