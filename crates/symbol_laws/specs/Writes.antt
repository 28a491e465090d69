-- What the calls write: no symbol row but the one that an add answers, and nothing past the counts.
-- Assumes nothing.
use Rattle.std.specs.Prelude.{ℕ, ◌*◌, ◌≤◌, ◌<◌, ◌≡◌, get_or}
use Rattle.symbol.specs.Row.{field, state_at}
use Rattle.symbol_resolution.specs.Holder.{global_at}
use Rattle.symbol_laws.specs.History.{State}

-- ---- past the counts

-- from s to t: symbol rows and name rows past t's counts stand as they stood, and so do all section rows
pub record Untouched (s t : State) : Type 0 where
  pub symbols : (q : ℕ) → t.link.symbols * 8 ≤ q → get_or t.symbols q 0 ≡ get_or s.symbols q 0
  pub names : (q : ℕ) → t.link.names * 8 ≤ q → q < s.link.chains * 8 → get_or t.names q 0 ≡ get_or s.names q 0
  pub sections : (q : ℕ) → q < s.link.slots * 8 → get_or t.sections q 0 ≡ get_or s.sections q 0

-- the row that bears the name
pub record Bears (s : State) (n id : ℕ) : Type 0 where
  pub found : global_at s.names n ≡ id
  pub present : state_at s.symbols id ≡ 1
  pub name : field s.symbols id 1 ≡ n
