-- For the place of 20 in a start: which indexes aren't empty. For that of 21 in a pass: which entries have a name whose row wasn't removed. For that of 1 in a collection: what it is lent.
-- Assumes nothing.
use Prim.Native.Nat.{ℕ}
use Rattle.std.specs.Prelude.{Bool, not, List, ltb, length}
use Rattle.link.specs.declared.Lent.{Lent}
use Rattle.archive_index.specs.Archives.{Archives, index_at}
use Rattle.archive_index.specs.Rows.{stored_name}
use Rattle.archive_walk.specs.Look.{removed_name}
use Rattle.archive_walk.specs.Look as Look
use Rattle.gc_sections.specs.Run as Collection
use Rattle.merge_laws.specs.Calls.{Linked}

-- an index that isn't empty
abbrev pub has_bytes : Archives → ℕ → Bool
has_bytes archives j = ltb 0 (length (index_at archives j))

module _ (index cells : List ℕ) (t : Look.Table) where
  abbrev pub not_removed : ℕ → Bool
  not_removed e = not (removed_name t (stored_name index cells e))

abbrev pub collect_lent : Linked → Lent
collect_lent s =
    Collection.lent_of (length s.table.bytes) (length s.table.names) (length s.table.symbols) (length s.table.sections) (length s.lists)
