-- Several indexes in one slice, with a list of where each ends: entries are those of the first index, then of the second and so on, and a member is known by its
-- archive's number and its offset there. One archive alone is a list of one end.
-- Assumes nothing.
use Rattle.std.specs.Prelude.{ℕ, zero, suc, ◌+◌, ◌*◌, ◌-◌, cond, ◌||◌, List, [], ◌∷◌, eqb, ltb, get_or, length}
use Rattle.byte_slices.specs.Bytes.{part}
use Rattle.cells.specs.Slice.{Slice}
use Rattle.archive_index.specs.declared.several.Archives as Declared
use Rattle.archive_index.specs.declared.several.Member.{Member}
use Rattle.archive_index.specs.Index.{count_of, offset_of, name_of}

pub record Archives : Type 0 where
  pub bytes : List ℕ
  pub ends : List ℕ

abbrev pub archives_of : List ℕ → List ℕ → Archives
archives_of s ends = record { bytes = s; ends = ends }

-- as they are lent
abbrev pub archives_in : Declared.Archives → Archives
archives_in a = archives_of a.bytes.now a.ends.now

-- by their slices
abbrev pub archives_lent : Slice → Slice → Archives
archives_lent s ends = archives_of s.entry.now ends.entry.now

-- an index alone
abbrev pub one : List ℕ → Archives
one s = archives_of s (length s ∷ [])

-- index j begins where the one before it ends
unfoldable pub start_at : Archives → ℕ → ℕ
start_at a j = cond (eqb j 0) 0 (get_or a.ends (j - 1) 0)

abbrev pub end_at : Archives → ℕ → ℕ
end_at a j = get_or a.ends j 0

-- where the last of them ends; 0 where there is none
abbrev pub last_end : Archives → ℕ
last_end a = start_at a (length a.ends)

unfoldable pub index_at : Archives → ℕ → List ℕ
index_at a j = part a.bytes (start_at a j) (end_at a j - start_at a j)

abbrev pub count_at : Archives → ℕ → ℕ
count_at a j = count_of (index_at a j)

-- how many entries the n indexes from j on have
unfoldable pub entries_from : Archives → ℕ → ℕ → ℕ
entries_from a zero j = 0
entries_from a (suc n) j = count_at a j + entries_from a n (j + 1)

abbrev pub entries_in : Archives → ℕ
entries_in a = entries_from a (length a.ends) 0

-- ---- entry e of the n indexes from j on, index by index

abbrev pub member : ℕ → ℕ → Member
member j o = record { archive = j; offset = o }

-- the last index has the entries that none before it has, however many it says to have
unfoldable pub member_from : Archives → ℕ → ℕ → ℕ → Member
member_from a zero j e = member j 0
member_from a (suc n) j e =
    cond (eqb n 0 || ltb e (count_at a j)) (member j (offset_of (index_at a j) e)) (member_from a n (j + 1) (e - count_at a j))

unfoldable pub name_from : Archives → ℕ → ℕ → ℕ → List ℕ
name_from a zero j e = []
name_from a (suc n) j e = cond (ltb e (count_at a j)) (name_of (index_at a j) (count_at a j) e) (name_from a n (j + 1) (e - count_at a j))

abbrev pub member_of : Archives → ℕ → Member
member_of a e = member_from a (length a.ends) 0 e

abbrev pub name_in : Archives → ℕ → List ℕ
name_in a e = name_from a (length a.ends) 0 e

-- a member as a number; an offset has 32 bits
abbrev pub key_of : ℕ → ℕ → ℕ
key_of archive offset = archive * 0x100000000 + offset

abbrev pub key_in : Archives → ℕ → ℕ
key_in a e = key_of (member_of a e).archive (member_of a e).offset
