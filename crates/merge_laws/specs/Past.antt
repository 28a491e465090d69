-- Rows past the counts are never written by the steps of a call, and no lent slice gets longer or shorter.
-- Assumes nothing.
use Rattle.std.specs.Prelude.{ℕ, ◌*◌, ◌<◌, ◌≤◌, ◌≡◌, List, ◌++◌, get_or, length}
use Rattle.cells.specs.Rows.{row_width}
use Rattle.symbol_laws.specs.History.{State, Entry}

-- from s to t: rows and bytes past t's counts stand as they stood
pub record TablePast (s t : State) : Type 0 where
  pub symbols : (q : ℕ) → t.link.symbols * row_width ≤ q → get_or t.symbols q 0 ≡ get_or s.symbols q 0
  pub names : (q : ℕ) → t.link.names * row_width ≤ q → q < s.link.chains * row_width → get_or t.names q 0 ≡ get_or s.names q 0
  pub bytes : (q : ℕ) → t.link.bytes ≤ q → get_or t.bytes q 0 ≡ get_or s.bytes q 0
  pub sections : (q : ℕ) → t.link.sections * row_width ≤ q → q < s.link.slots * row_width → get_or t.sections q 0 ≡ get_or s.sections q 0
  pub symbols-long : length t.symbols ≡ length s.symbols
  pub names-long : length t.names ≡ length s.names
  pub bytes-long : length t.bytes ≡ length s.bytes
  pub sections-long : length t.sections ≡ length s.sections

-- the log, and behind it what the symbols before an object's own symbol have added to it
abbrev pub past_with : List Entry → List Entry → List Entry
past_with past own = past ++ own
