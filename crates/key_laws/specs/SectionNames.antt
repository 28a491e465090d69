-- Each built section has a name within the names' rows.
-- Assumes nothing.
use Rattle.std.specs.Prelude.{ℕ, ◌+◌, ◌*◌, ◌<◌, ◌≤◌, ◌≡◌, List, length}
use Rattle.link.specs.declared.Link.{Link}
use Rattle.sections.specs.Rows.{state_at, name_id_at}

-- of the rows that are counted and lent, a built one has a name within the names' rows
abbrev pub Named : Link → List ℕ → Type 0
Named l rows = (i : ℕ) → i < l.sections → i < l.slots → i * 8 + 8 ≤ length rows → state_at rows i ≡ 2 → name_id_at rows i < l.chains
