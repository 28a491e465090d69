-- Where a start over indexes gives 1: a seventeenth; an end below the one before it, or past the slice; else, where no index is empty, index by index,
-- at a content that is cut short.
-- An index that ends before its count, an offset or a name does is cut short at an entry; entries count over all indexes.
-- Assumes nothing.
use Prim.Native.Nat.{ℕ, ◌+◌, ◌*◌, ◌<◌, ◌≤◌}
use Rattle.std.specs.Prelude.{◌≡◌, Bool, cond, List, ltb, leb}
use Rattle.std.proofs.Math.Bool.{true, false}
use Rattle.std.proofs.Math.ListN.{length}
use Rattle.gabi.specs.StringTable.{ended}
use Rattle.archive_index.specs.Index.{count_of, place_of}
use Rattle.archive_index.specs.Archives.{Archives, start_at, end_at}
use Rattle.link_laws.specs.FirstRow.{First}
use Rattle.link_laws.specs.ArchiveRules.{own_bytes, position}

-- an index of which the first entry has position b
module _ (index : List ℕ) (b : ℕ) where
  -- entry k is below the bound of all indexes together, and the four bytes of its offset are there
  abbrev pub offset_whole : ℕ → Bool
  offset_whole k = cond (ltb (b + k) 65535) (leb (8 + 4 * k) (length index)) false

  abbrev pub name_whole : ℕ → Bool
  name_whole k = ended index (place_of index (count_of index) k)

  pub record WholeIndex : Type 0 where
    pub count : 4 ≤ length index
    pub offsets : (k : ℕ) → k < count_of index → offset_whole k ≡ true
    pub names : (k : ℕ) → k < count_of index → name_whole k ≡ true

  -- cut short at position p
  pub data CutIndex (p : ℕ) : Type 0 where
    count : length index < 4 → p ≡ b → CutIndex p
    offset : 4 ≤ length index → (k : ℕ) → First offset_whole (count_of index) k → p ≡ b + k → CutIndex p
    name : 4 ≤ length index → ((k : ℕ) → k < count_of index → offset_whole k ≡ true) → (k : ℕ) → First name_whole (count_of index) k → p ≡ b + k → CutIndex p

module _ (archives : Archives) where
  -- no lower than the end before it, and within the slice
  abbrev pub end_right : ℕ → Bool
  end_right j = cond (leb (start_at archives j) (end_at archives j)) (leb (end_at archives j) (length archives.bytes)) false

  pub data CutShort (p : ℕ) : Type 0 where
    many : 16 < length archives.ends → p ≡ 16 → CutShort p
    end : length archives.ends ≤ 16 → First end_right (length archives.ends) p → CutShort p
    content : length archives.ends ≤ 16 → ((j : ℕ) → j < length archives.ends → end_right j ≡ true) → ((j : ℕ) → j < length archives.ends → 0 < length (own_bytes archives j))
        → (j : ℕ) → j < length archives.ends
        → ((i : ℕ) → i < j → WholeIndex (own_bytes archives i) (position archives i)) → CutIndex (own_bytes archives j) (position archives j) p → CutShort p
