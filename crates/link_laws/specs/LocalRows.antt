-- Rows and sections' symbols from one state to a later one, through calls that remove nothing: a local row stays as it is, no row of a name becomes local, and a
-- section's symbol is the newest local `Section` row of it.
-- Assumes nothing.
use Rattle.std.specs.Prelude.{ℕ, ◌≤◌, ◌<◌, ◌≡◌, Bool, true, false, ◌&&◌, ◌≢◌, eqb}
use Rattle.symbol.specs.declared.Row.{Row}
use Rattle.symbol.specs.Row.{state_at, scope_at}
use Rattle.symbol_resolution.specs.Holder.{global_at}
use Rattle.symbols.specs.Lookup.{section_symbol_at}
use Rattle.symbol.specs.Row.{row_at}
use Rattle.symbol_laws.specs.History.{State}

-- ---- the words

-- a local `Section` row of section y
abbrev pub own_of : Row → ℕ → Bool
own_of r y = eqb r.scope 0 && (eqb r.value.kind 2 && eqb r.value.a y)

abbrev pub is_own : State → ℕ → ℕ → Bool
is_own s i y = own_of (row_at s.symbols i) y

-- the cell of section y's symbol, 0 for none
abbrev pub symbol_in : State → ℕ → ℕ
symbol_in s y = section_symbol_at s.link s.sections y

-- no name is held by a local row
abbrev pub Shown : State → Type 0
Shown s = (n : ℕ) → n < s.link.names → global_at s.names n ≢ 0 → scope_at s.symbols (global_at s.names n) ≢ 0

-- each section's symbol is one of the rows counted
abbrev pub Counted : State → Type 0
Counted s = (y : ℕ) → symbol_in s y < s.link.symbols

-- row i, counted in s: as it was, or a name's row before and after
pub data Stands (s t : State) (i : ℕ) : Type 0 where
  same : row_at t.symbols i ≡ row_at s.symbols i → Stands s t i
  other : scope_at s.symbols i ≢ 0 → scope_at t.symbols i ≢ 0 → (scope_at s.symbols i < 5 → scope_at t.symbols i < 5) → Stands s t i

-- the symbol of section y: that of the newest local `Section` row of it since s, else the one in s
pub data Since (s t : State) (y : ℕ) : Type 0 where
  none : symbol_in t y ≡ symbol_in s y → ((i : ℕ) → s.link.symbols ≤ i → i < t.link.symbols → is_own t i y ≡ false) → Since s t y
  newest : (i : ℕ) → s.link.symbols ≤ i → i < t.link.symbols → is_own t i y ≡ true
      → ((j : ℕ) → i < j → j < t.link.symbols → is_own t j y ≡ false) → symbol_in t y ≡ i → Since s t y

pub record Onto (s t : State) : Type 0 where
  pub shown : Shown t
  pub more : s.link.symbols ≤ t.link.symbols
  pub stands : (i : ℕ) → i < s.link.symbols → Stands s t i
  pub coded : (i : ℕ) → s.link.symbols ≤ i → i < t.link.symbols → scope_at t.symbols i < 5
  pub present : (i : ℕ) → i < t.link.symbols → (i < s.link.symbols → state_at s.symbols i ≢ 2) → state_at t.symbols i ≢ 2
  pub since : (y : ℕ) → Since s t y

-- ---- any calls, those that remove too: a removed row keeps its cells but for its state

pub record Stay (s t : State) : Type 0 where
  pub shown : Shown t
  pub more : s.link.symbols ≤ t.link.symbols
  pub stands : (i : ℕ) → i < s.link.symbols → Stands s t i
  pub counted : Counted s → Counted t
