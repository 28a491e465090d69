-- Names in byte order at places, and what a search among places tells.
-- Assumes nothing.
use Rattle.std.specs.Prelude.{ℕ, ◌<◌, ◌≤◌, ◌≡◌, List, get_or, length, Ok, Err}
use Rattle.std.specs.Ordering.{nat_cmp}
use Rattle.std.specs.declared.cmp.Ordering.{Ordering}
use Rattle.std.specs.declared.cmp.Ordering.TheVariants.{Less, Equal, Greater}
use Rattle.std.specs.Cmp.Lexicographic.{slice_cmp}
use Rattle.name_index.specs.declared.Met.{Met}
use Rattle.name_index.specs.Named.{Rows, name_of_row}

-- the name at a place
abbrev pub name_in : Rows → List ℕ → ℕ → List ℕ
name_in r places k = name_of_row r (get_or places k 0)

-- in byte order, each name once: an earlier place has a lesser name
abbrev pub InOrder : Rows → List ℕ → Type 0
InOrder r places = (i j : ℕ) → i < j → j < length places → slice_cmp nat_cmp (name_in r places i) (name_in r places j) ≡ Less

-- of count places, by how each stands to a name: the name is met, or all before the place are less and the rest greater
pub record Right (f : ℕ → Ordering) (count : ℕ) (m : Met) : Type 0 where
  pub met : (k : ℕ) → m.place ≡ Ok k → (k < count) × (f k ≡ Equal)
  pub missed : (k : ℕ) → m.place ≡ Err k → (k ≤ count) × ((i : ℕ) → i < k → f i ≡ Less) × ((i : ℕ) → k ≤ i → i < count → f i ≡ Greater)
