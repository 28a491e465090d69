-- What a caller sees of opened indexes: the cells and the answer; and that a method of the rows keeps what it was lent.
-- Assumes nothing.
use Rattle.std.specs.Prelude.{ℕ, ◌≡◌, List, Result}
use Rattle.link.specs.declared.cause.Refusal.{Refusal}
use Rattle.archive_index.specs.declared.Rows.{Rows}
use Rattle.archive_index.specs.Open.{Left, answer_in}

pub record Answers (o : Left) (l : List ℕ) (r : Result ℕ Refusal) : Type 0 where
  pub cells : l ≡ o.cells
  pub answer : r ≡ answer_in o.opened

-- the same indexes, and the same lent cells
abbrev pub same_rows : Rows → Rows → Type 0
same_rows a b = (b.cells.ghost_name ≡ a.cells.ghost_name) × (b.archives.bytes.now ≡ a.archives.bytes.now) × (b.archives.ends.now ≡ a.archives.ends.now)
