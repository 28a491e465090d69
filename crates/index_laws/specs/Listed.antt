-- What the index holds: each global name once, removed ones too, in byte order.
-- Assumes nothing.
use Rattle.std.specs.Prelude.{ℕ, ◌<◌, ◌≤◌, ◌≡◌, ◌≢◌, get_or, length}
use Rattle.symbol.specs.Row.{scope_at}
use Rattle.name_index.specs.Named.{Rows, rows_of}
use Rattle.name_index.specs.Index.{Index, used}
use Rattle.name_index_laws.specs.InOrder.{InOrder}
use Rattle.symbol_laws.specs.History.{State}

abbrev pub rows_at : State → Rows
rows_at t = rows_of t.bytes t.names t.symbols

-- the place of a row
pub record Placed (x : Index) (i : ℕ) : Type 0 where
  pub place : ℕ
  pub low : place < x.count
  pub is : get_or (used x) place 0 ≡ i

-- of the first m rows the global ones have places, no others have, and the names at the places are in order
pub record Lists (t : State) (x : Index) (m : ℕ) : Type 0 where
  pub room : x.count ≤ length x.places
  pub few : x.count ≤ m
  pub counted : (k : ℕ) → k < x.count → get_or (used x) k 0 < m
  pub global : (k : ℕ) → k < x.count → scope_at t.symbols (get_or (used x) k 0) ≢ 0
  pub sorted : InOrder (rows_at t) (used x)
  pub all : (i : ℕ) → i < m → scope_at t.symbols i ≢ 0 → Placed x i

-- of all rows
abbrev pub Listed : State → Index → Type 0
Listed t x = Lists t x t.link.symbols
