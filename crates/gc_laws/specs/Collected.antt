-- Demand 3: "Collection, unless refused, keeps exactly what relocations reach from the roots." What a call keeps and removes, and where it is refused, by
-- what is reached. Of any call, whatever the cells hold.
-- Assumes nothing.
use Rattle.link.specs.declared.SymbolId.{SymbolId}
use Rattle.std.specs.Prelude.{ℕ, ◌+◌, ◌*◌, ◌<◌, ◌≤◌, ◌≡◌, List, get_or, Option}
use Rattle.link.specs.declared.Link.{Link}
use Rattle.symbol.specs.Row as Symbol
use Rattle.symbol.specs.Layout.{removed_state}
use Rattle.sections.specs.Rows.{field, state_at, dropped_state}
use Rattle.gc_sections.specs.Run.{Left, Lists, judged, run_of}
use Rattle.gc_laws.specs.Reached.{Built, Leads, Reached}

module _ (l : Link) (x : Lists) (symbols sections : List ℕ) (entry : Option SymbolId) (work : List ℕ) where
  abbrev r : Left
  r = run_of l x symbols sections entry work

  abbrev R : ℕ → Type 0
  R = Reached l x symbols sections entry

  -- 22, 1 and the work cells refuse nothing
  abbrev pub Passed : Type 0
  Passed = (judged l x symbols sections work).number ≡ 0

  -- built before the call, and after it; each in its own words
  abbrev pub Before : ℕ → Type 0
  Before = Built l x symbols sections

  abbrev pub After : ℕ → Type 0
  After = Built l x r.symbols r.sections

  -- not refused: a section is there after the call exactly if it is reached, and it was there before
  pub record Kept : Type 0 where
    pub reached : (y : ℕ) → After y → R y
    pub kept : (y : ℕ) → R y → After y
    pub built : (y : ℕ) → R y → Before y
    pub dropped : (y : ℕ) → Before y → (R y → ⊥) → state_at r.sections y ≡ dropped_state

  -- symbol i lies in section y
  abbrev pub Lies : ℕ → ℕ → Type 0
  Lies = Leads l x symbols sections

  -- its value is `Section`
  abbrev pub IsSection : ℕ → Type 0
  IsSection i = Symbol.field symbols i 5 ≡ 2

  -- the cell of section y's symbol, behind the section rows that a new table was lent
  abbrev pub cell_of : ℕ → ℕ
  cell_of y = l.slots * 8 + y

  -- not refused: "their symbols' rows with them", and no other cell of a row
  pub record Removed : Type 0 where
    pub removed : (i y : ℕ) → Lies i y → Before y → (R y → ⊥) → Symbol.state_at r.symbols i ≡ removed_state
    pub stays : (i f : ℕ) → f < 8 → (f ≡ 0 → (y : ℕ) → Lies i y → Before y → R y) → Symbol.field r.symbols i f ≡ Symbol.field symbols i f
    pub section_stays : (y f : ℕ) → y < l.slots → f < 8 → (f ≡ 0 → Before y → R y) → field r.sections y f ≡ field sections y f
    -- "`remove` of any `Section` row drops that entry": a section's symbol goes with each removed `Section` row of it, and no other cell changes
    pub entry_dropped : (i y : ℕ) → Lies i y → IsSection i → Before y → (R y → ⊥) → get_or r.sections (cell_of y) 0 ≡ 0
    pub entry_stays : (y : ℕ) → ((i : ℕ) → Lies i y → IsSection i → Before y → R y) → get_or r.sections (cell_of y) 0 ≡ get_or sections (cell_of y) 0
    pub entry_falls : (y : ℕ) → get_or r.sections (cell_of y) 0 ≤ get_or sections (cell_of y) 0

  -- refused with 21: the place is the lowest section that is reached but not built
  pub record Lowest (k : ℕ) : Type 0 where
    pub reached : R k
    pub unbuilt : Before k → ⊥
    pub least : (y : ℕ) → R y → (Before y → ⊥) → k ≤ y
