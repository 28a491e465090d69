-- The contracts of the filter of a symbol table, which writes nothing: a symbol's section after it, and the first symbol that it refuses.
-- Assumes nothing.
use Rattle.std.specs.Prelude.{ℕ, ◌≡◌, Bool, List}
use Rattle.section_groups.specs.Filter.{section_after, discarded_at, filter_of}

abbrev pub SectionAfterMeets : List ℕ → ℕ → ℕ → Type 0
SectionAfterMeets work section r = r ≡ section_after work section

abbrev pub DiscardedMeets : List ℕ → List ℕ → ℕ → Bool → Type 0
DiscardedMeets work entries i r = r ≡ discarded_at work entries i

abbrev pub FilterMeets : Bool → List ℕ → List ℕ → ℕ → Type 0
FilterMeets gabi work entries r = r ≡ filter_of gabi work entries
