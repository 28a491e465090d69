-- An index by its list of entries: its bytes, what the call `start` answers on them, and the row that it leaves for an entry.
-- Assumes nothing.
use Rattle.std.specs.Prelude.{ℕ, ◌≡◌, true, cond, eqb, ltb}
use mathlib.Core.List.{List, [], ◌∷◌, ◌++◌}
use Rattle.gabi.specs.ArchiveIndex.{Entry, index_bytes}
use Rattle.link.specs.Said.{SaidWith}
use Rattle.archive_index.specs.Rows.{required_at, member_at, pass_at, queue_at, stored_name}
use Rattle.archive_index.specs.Archives.{one, key_in, member, member_of}
use Rattle.archive_laws.specs.Counts.{First}

-- the bytes of a list of entries, with whatever stands behind them
abbrev pub bytes_of : List Entry → List ℕ → List ℕ
bytes_of es rest = index_bytes es ++ rest

-- an answer by its number, its place and its values
abbrev said : ℕ → ℕ → List ℕ → SaidWith ℕ
said number place values = record { number = number; place = place; values = values }

-- n entries, and so many rows lent: "index entries to 65,535" (1), "Fewer cells lent than entries give 2 at the start"; else how many entries there are
abbrev pub start_said : ℕ → ℕ → SaidWith ℕ
start_said n lent = cond (ltb 65535 n) (said 1 65535 []) (cond (ltb lent n) (said 2 0 []) (said 0 0 (n ∷ [])))

-- row k of the cells left says of entry e its name, its member's offset, and the first entry of that member; nothing is required or queued, and the cell of
-- the queue is empty
pub record StartRow (index left : List ℕ) (k : ℕ) (e : Entry) : Type 0 where
  pub name : stored_name index left k ≡ e.name
  pub offset : member_of (one index) k ≡ member 0 e.offset
  pub member : First (key_in (one index)) k (member_at left k)
  pub unrequired : required_at left k ≡ 0
  pub unqueued : eqb (pass_at left (member_at left k)) 0 ≡ true
  pub empty : queue_at left k ≡ 0
