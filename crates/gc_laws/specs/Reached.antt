-- What relocations reach from the roots, with no word of how that is found out: none of the tests of the collection itself stands here.
-- Assumes nothing.
use Rattle.link.specs.declared.SymbolId.{SymbolId}
use Prim.Native.Char.{code}
use Rattle.std.specs.Prelude.{ℕ, zero, suc, ◌+◌, ◌<◌, ◌≡◌, List, [], ◌∷◌, ◌≢◌, get_or, Option, Some}
use Prim.Native.String.{String, len, char_at}
use Rattle.link.specs.declared.Link.{Link}
use Rattle.interner.specs.Names.{name_at}
use Rattle.symbol.specs.Layout.{removed_state, section_kind, relative_kind, address_kind}
use Rattle.symbol.specs.Row as Symbol
use Rattle.sections.specs.Rows.{state_at, name_id_at, kind_at, retain_at, read_at, first_at, count_at, built_state, program, uninitialized}
use Rattle.gc_sections.specs.Roots.{value_kind_at, value_section_at}
use Rattle.gc_sections.specs.Run.{Lists}

-- the bytes of a text
abbrev bytes_from : String → ℕ → ℕ → List ℕ
bytes_from t i zero = []
bytes_from t i (suc n) = code (char_at t i) ∷ bytes_from t (i + 1) n

abbrev pub bytes_of : String → List ℕ
bytes_of t = bytes_from t 0 (len t)

-- a value that lies in a section, the cell behind it: `Section`, relative to one, an address in one
pub data InSection (kind : ℕ) : Type 0 where
  section : kind ≡ section_kind → InSection kind
  relative : kind ≡ relative_kind → InSection kind
  address : kind ≡ address_kind → InSection kind

module _ (l : Link) (x : Lists) (symbols sections : List ℕ) where
  -- section y was built, and not dropped since
  pub record Built (y : ℕ) : Type 0 where
    pub issued : y < l.sections
    pub state : state_at sections y ≡ built_state

  -- the value of symbol i lies in section y; "Symbols removed or absent lead nowhere"
  pub record Leads (i y : ℕ) : Type 0 where
    pub issued : i < l.symbols
    pub present : Symbol.state_at symbols i ≢ removed_state
    pub valued : InSection (value_kind_at symbols i)
    pub lies : value_section_at symbols i ≡ y

  -- some relocation of section y names a symbol that lies in section z
  pub record Names (y z : ℕ) : Type 0 where
    pub at : ℕ
    pub within : at < count_at sections y
    pub listed : first_at sections y + at < l.lists
    pub leads : Leads (get_or x.lists (first_at sections y + at) 0) z

  -- "retained sections, `.eh_frame`, and everything but readable program or uninitialized sections"
  pub data IsRoot (y : ℕ) : Type 0 where
    retained : retain_at sections y ≢ 0 → IsRoot y
    eh_frame : name_at x.bytes x.names (name_id_at sections y) ≡ bytes_of ".eh_frame" → IsRoot y
    unreadable : read_at sections y ≡ 0 → IsRoot y
    other_kind : kind_at sections y ≢ program → kind_at sections y ≢ uninitialized → IsRoot y

  module _ (entry : Option SymbolId) where
    -- "Roots: symbols marked by the caller, the entry symbol", and those sections, if they are built; from these on by relocations
    pub data Reached : ℕ → Type 0 where
      marked : (i : ℕ) {y : ℕ} → get_or x.marks i 0 ≢ 0 → Leads i y → Reached y
      entered : (i : ℕ) {y : ℕ} → entry ≡ Some (record { 0 = i }) → Leads i y → Reached y
      root : {y : ℕ} → Built y → IsRoot y → Reached y
      step : {y z : ℕ} → Reached y → Built y → Names y z → Reached z
