-- A pass looks each name of the index up once for both its questions, whether a row was removed and which names tie: the first search notes the entries
-- that tie, and the second passes over those that aren't noted. Nothing that a caller sees depends on the notes.
-- Assumes nothing.
use Rattle.std.specs.Prelude.{ℕ, ◌%◌, ◌<◌, ◌≡◌, Bool, true, cond, List, eqb, get_or, set}
use Rattle.symbol_resolution.specs.declared.rows.Holder.{Holder}
use Rattle.archive_index.specs.Rows.{stored_name}
use Rattle.archive_walk.specs.Look.{Table, ties, tied_name}

abbrev pub note_bytes : ℕ
note_bytes = 4096

-- the note of entry k, which it shares with those so far apart
unfoldable pub is_noted : List ℕ → ℕ → Bool
is_noted notes k = eqb (get_or notes (k % note_bytes) 0) 1

unfoldable pub note_tie : Bool → List ℕ → Holder → List ℕ → ℕ → List ℕ
note_tie gabi symbols h notes k = cond (ties gabi symbols h) (set notes (k % note_bytes) 1) notes

-- of the first n entries those that tie are noted
pub record Noted (s l : List ℕ) (t : Table) (n : ℕ) (notes : List ℕ) : Type 0 where
  pub noted : (k : ℕ) → k < n → tied_name t (stored_name s l k) ≡ true → is_noted notes k ≡ true
