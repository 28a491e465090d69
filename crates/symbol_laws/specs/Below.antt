-- The rows that names have are counted, and no more are counted than the bound: kept by every part, whatever was removed.
-- Assumes nothing.
use Rattle.std.specs.Prelude.{ℕ, ◌≤◌, ◌<◌, ◌≢◌}
use Rattle.symbol_resolution.specs.Holder.{global_at}
use Rattle.symbol_laws.specs.History.{State}

pub record Below (s : State) : Type 0 where
  pub few : s.link.symbols ≤ 65535
  pub held : (n : ℕ) → n < s.link.names → global_at s.names n ≢ 0 → global_at s.names n < s.link.symbols
