-- What the second collector's visits find, against what is reached: what they mark and note is reached (Good), and all that is reached was met (Exact).
-- Assumes nothing.
use Rattle.std.specs.Prelude.{ℕ, ◌<◌, ◌≤◌, ◌≡◌, ◌⊎◌, true, false, List, get_or, length, Option, Some}
use Rattle.link.specs.declared.Link.{Link}
use Rattle.link.specs.declared.SectionId.{SectionId}
use Rattle.link.specs.declared.SymbolId.{SymbolId}
use Rattle.sections.specs.Rows.{is_built}
use Rattle.gc_sections.specs.Run.{Lists}
use Rattle.plain_collector.specs.Visit.{Visited}
use Rattle.gc_laws.specs.Reached.{Reached}

-- section y is marked
abbrev pub Marked : Visited → ℕ → Type 0
Marked s y = get_or s.work y 0 ≡ 1

-- a section that isn't built, y or a lower one, was noted
abbrev pub Low : Visited → ℕ → Type 0
Low s y = (id : SectionId) × (s.unbuilt ≡ Some id) × (id.0 ≤ y)

module _ (l : Link) (x : Lists) (symbols sections : List ℕ) (entry : Option SymbolId) where
  -- what every visit keeps: a cell for each section, which is 0 or a mark; what is marked is reached and built, what is noted reached and not built
  pub record Good (s : Visited) : Type 0 where
    pub room : l.sections ≤ length s.work
    pub bit : (y : ℕ) → y < l.sections → (get_or s.work y 0 ≡ 0) ⊎ (Marked s y)
    pub sound : (y : ℕ) → y < l.sections → Marked s y → Reached l x symbols sections entry y × (is_built sections l.sections y ≡ true)
    pub lowest : (id : SectionId) → s.unbuilt ≡ Some id → Reached l x symbols sections entry id.0 × (is_built sections l.sections id.0 ≡ false)

  -- y was met: it is marked if it is built, else noted
  pub record Seen (s : Visited) (y : ℕ) : Type 0 where
    pub mark : is_built sections l.sections y ≡ true → Marked s y
    pub low : is_built sections l.sections y ≡ false → Low s y

  pub record Exact (s : Visited) : Type 0 where
    pub good : Good s
    pub all : (y : ℕ) → Reached l x symbols sections entry y → Seen s y
