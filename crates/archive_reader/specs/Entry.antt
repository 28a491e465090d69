-- Document 01, "Archives": an entry's member offset and name, by the index's bytes and its number of entries. Of an index that a start refuses
-- with 1 the names behind a cut one mean nothing.
-- Assumes nothing.
use Rattle.std.specs.Prelude.{ℕ, ◌/◌, cond, List, [], ltb, length}
use Rattle.archive_index.specs.Index.{offset_of, name_of, word_bytes}

-- 0 where there is no such entry
unfoldable pub entry_offset : List ℕ → ℕ → ℕ → ℕ
entry_offset s c k = cond (ltb k c) (offset_of s k) 0

-- empty where there is no such entry, or no room for the offsets before the names
unfoldable pub entry_name : List ℕ → ℕ → ℕ → List ℕ
entry_name s c k = cond (ltb k c) (cond (ltb c (length s / word_bytes)) (name_of s c k) []) []
