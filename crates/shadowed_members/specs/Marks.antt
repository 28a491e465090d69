-- The call marks the members that were offered, a byte for each entry, so that an entry asks for its own at once. Nothing that a caller sees depends on the
-- marks.
-- Assumes nothing.
use Rattle.std.specs.Prelude.{ℕ, ◌≡◌, Bool, List, eqb, get_or, length}
use Rattle.archive_index.specs.Open.{entry_bound}
use Rattle.shadowed_members.specs.Shadowed.{offered_among}

-- the member that r represents is marked
unfoldable pub is_marked : List ℕ → ℕ → Bool
is_marked marks r = eqb (get_or marks r 0) 1

-- just those of the first n entries of the queue are
pub record Marked (l : List ℕ) (n : ℕ) (marks : List ℕ) : Type 0 where
  pub whole : length marks ≡ entry_bound
  pub marked : (r : ℕ) → is_marked marks r ≡ offered_among l n r
