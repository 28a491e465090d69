-- Rows and names: a name's symbol bears that name, and a row that isn't local is its name's symbol.
-- Assumes nothing.
use Rattle.std.specs.Prelude.{ℕ, ◌<◌, ◌≡◌, ◌≢◌}
use Rattle.symbol.specs.Row.{field, scope_at}
use Rattle.symbol.specs.Layout.{name_cell}
use Rattle.symbol_resolution.specs.Holder.{global_at}
use Rattle.symbol_laws.specs.History.{State}

-- the id of a row's name
abbrev pub name_id : State → ℕ → ℕ
name_id s i = field s.symbols i name_cell

pub record Borne (s : State) (i : ℕ) : Type 0 where
  pub some : i ≢ 0
  pub issued : name_id s i < s.link.names
  pub found : global_at s.names (name_id s i) ≡ i

pub record Bears (s : State) : Type 0 where
  pub some : s.link.symbols ≢ 0
  pub named : (n : ℕ) → n < s.link.names → global_at s.names n ≢ 0 → name_id s (global_at s.names n) ≡ n
  pub borne : (i : ℕ) → i < s.link.symbols → scope_at s.symbols i ≢ 0 → Borne s i
