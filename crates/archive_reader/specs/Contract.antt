-- The contracts of the archive index' reader, which writes nothing: the struct made, an entry's offset, an entry's name.
-- Assumes nothing.
use Rattle.std.specs.Prelude.{ℕ, ◌≡◌, List}
use Rattle.std.specs.Borrow.{Bor}
use Rattle.archive_reader.specs.Entry.{entry_offset, entry_name}

-- the caller's slice itself, and the number of entries
abbrev pub ReaderMeets : Bor (List ℕ) → ℕ → Bor (List ℕ) → ℕ → Type 0
ReaderMeets bytes entries b n = (b ≡ bytes) × (n ≡ entries)

abbrev pub OffsetMeets : List ℕ → ℕ → ℕ → ℕ → Type 0
OffsetMeets s c k r = r ≡ entry_offset s c k

-- "that very part": the name's bytes, in the memory of the slice
abbrev pub NameMeets : Bor (List ℕ) → ℕ → ℕ → Bor (List ℕ) → Type 0
NameMeets s c k r = (r.now ≡ entry_name s.now c k) × (r.ref_ptr.0 ≡ s.ref_ptr.0)
