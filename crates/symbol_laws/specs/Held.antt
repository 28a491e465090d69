-- What holds of every table in which nothing was removed, given its accepted adds: the row of each name, counts within what is lent, and of each name one
-- strong definition at most.
-- Assumes nothing.
use Rattle.std.specs.Prelude.{ℕ, ◌*◌, ◌≤◌, ◌<◌, ◌≡◌, List, [], ◌∷◌, length}
use Rattle.symbol.specs.declared.Row.{Row}
use Rattle.symbol.specs.Row.{state_at}
use Rattle.symbol_resolution.specs.Holder.{global_at}
use Rattle.symbol_laws.specs.Rank.{strong_definition, count}
use Rattle.symbol_laws.specs.Standing.{row_after}
use Rattle.symbol.specs.Row.{row_at}
use Rattle.symbol_laws.specs.History.{State, Entry, only, rows}

-- a present row that bears the name
pub record Holds (s : State) (n id : ℕ) (r : Row) : Type 0 where
  pub found : global_at s.names n ≡ id
  pub there : state_at s.symbols id ≡ 1
  pub content : row_at s.symbols id ≡ r
  pub named : r.name.0 ≡ n
  pub above : 1 ≤ id
  pub below : id < s.link.symbols

-- after these accepted adds of its name, in the link's profile
abbrev pub Held : State → ℕ → List Entry → Type 0
Held s n [] = global_at s.names n ≡ 0
Held s n (x ∷ xs) = Holds s n x.id (row_after s.link.gabi x.row (rows xs))

pub record Inv (s : State) (past : List Entry) : Type 0 where
  pub some : 1 ≤ s.link.symbols
  pub room : s.link.symbols * 8 ≤ length s.symbols
  pub few : s.link.symbols ≤ 65535
  pub names-room : s.link.names * 9 ≤ length s.names
  pub held_by : (n : ℕ) → n < s.link.names → Held s n (only n past)
  pub unissued : (n : ℕ) → s.link.names ≤ n → only n past ≡ []
  -- of a name's strong definitions one is accepted
  pub once : (n : ℕ) → count strong_definition (rows (only n past)) ≤ 1
