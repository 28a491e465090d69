-- What a walk of a collection has found: the sections that it marked and listed, and the lowest one that isn't built.
-- Assumes nothing.
use Rattle.link.specs.declared.SymbolId.{SymbolId}
use Rattle.std.specs.Prelude.{ℕ, ◌+◌, ◌<◌, ◌≤◌, ◌≡◌, ◌⊎◌, true, false, List, get_or, length, Option, Some}
use Rattle.link.specs.declared.Link.{Link}
use Rattle.link.specs.declared.SectionId.{SectionId}
use Rattle.sections.specs.Rows.{is_built}
use Rattle.gc_sections.specs.Reach.{Walk}
use Rattle.gc_sections.specs.Run.{Lists}
use Rattle.gc_laws.specs.Marks.{marks}
use Rattle.gc_laws.specs.Reached.{Reached}

abbrev pub Marked : Walk → ℕ → Type 0
Marked s y = get_or s.work y 0 ≡ 1

-- a section that isn't built, y or a lower one, was noted
abbrev pub Low : Walk → ℕ → Type 0
Low s y = (id : SectionId) × (s.visitor.unbuilt ≡ Some id) × (id.0 ≤ y)

module _ (sections : List ℕ) (n : ℕ) where
  abbrev pub Built : ℕ → Type 0
  Built y = is_built sections n y ≡ true

  abbrev pub Unready : ℕ → Type 0
  Unready y = is_built sections n y ≡ false

  -- P: what it is to be reached. Marks and list agree, each marked section is reached and built, and the noted one is reached and not built
  pub record Good (P : ℕ → Type 0) (s : Walk) : Type 0 where
    pub room : n + n ≤ length s.work
    pub count : marks n s.work ≡ s.visitor.queued
    pub bit : (y : ℕ) → y < n → (get_or s.work y 0 ≡ 0) ⊎ (Marked s y)
    pub sound : (y : ℕ) → y < n → Marked s y → P y × Built y
    pub listed : (y : ℕ) → y < n → Marked s y → (k : ℕ) × (k < s.visitor.queued) × (get_or s.work (n + k) 0 ≡ y)
    pub queued : (k : ℕ) → k < s.visitor.queued → (get_or s.work (n + k) 0 < n) × Marked s (get_or s.work (n + k) 0)
    pub lowest : (id : SectionId) → s.visitor.unbuilt ≡ Some id → P id.0 × Unready id.0

  -- y was met: it is marked if it is built, else noted
  pub record Seen (s : Walk) (y : ℕ) : Type 0 where
    pub mark : Built y → Marked s y
    pub low : Unready y → Low s y

-- what is marked or noted is reached, and all that is reached is marked or noted
module _ (l : Link) (x : Lists) (symbols sections : List ℕ) (entry : Option SymbolId) where
  pub record Exact (s : Walk) : Type 0 where
    pub good : Good sections l.sections (Reached l x symbols sections entry) s
    pub all : (y : ℕ) → Reached l x symbols sections entry y → Seen sections l.sections s y
