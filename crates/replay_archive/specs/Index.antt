-- The index of an archive that a list tells, in lent bytes.
-- Assumes nothing.
use Rattle.std.specs.Prelude.{ℕ, ◌+◌, ◌*◌, ◌/◌, ◌%◌, ◌^◌, cond, List, [], ◌∷◌, length, ◌==◌, nat_lt, slice_set, None}
use Rattle.byte_slices.specs.Bytes.{copied}
use Rattle.symbol.specs.Codes.{successor}
use Rattle.text.specs.Fields.{field_of}
use Rattle.replay_words.specs.Words.{word_is, number_at, name_at, one_word}
use Rattle.replay_words.specs.Spelled.{Spelled, put_bytes}
use Rattle.replay_archive.specs.declared.Archive.{Archive}

-- the bytes, and how far the archive is told
pub record Told : Type 0 where
  pub file : List ℕ
  pub archive : Archive

abbrev pub told_as : List ℕ → Archive → Told
told_as file a = record { file = file; archive = a }

-- nothing was offered yet
abbrev pub archive_as : ℕ → ℕ → Archive
archive_as len entries = record { length = len; entries = entries; offered = None }

unfoldable pub put_byte : List ℕ → ℕ → ℕ → List ℕ
put_byte file i v = slice_set file i (v % 256)

-- 32 bits, big-endian
unfoldable pub put_word : List ℕ → ℕ → ℕ → List ℕ
put_word file i v =
    put_byte
    (put_byte (put_byte (put_byte file i (v / 16777216)) ((i + 1) % 2 ^ 64) (v / 65536)) ((i + 2) % 2 ^ 64) (v / 256))
    ((i + 3) % 2 ^ 64) v

-- where offset k of an index lies, and where names begin behind k offsets; 65,535 entries at most
unfoldable pub offset_place : ℕ → ℕ
offset_place k = cond (nat_lt k 65535) (4 + 4 * k) 0

-- `archive HASINDEX COUNT`: the count is put
unfoldable pub announce_of : List ℕ → ℕ → List ℕ → Told
announce_of file at line =
    cond (word_is line 1 one_word) (told_as (put_word file at (number_at line 2)) (archive_as (offset_place (number_at line 2)) 0))
    (told_as file (archive_as 0 0))

-- a name and its zero byte behind what is told
unfoldable pub named : List ℕ → ℕ → Archive → List ℕ → Told
named file start a name =
    told_as (put_byte (copied file start name) ((start + length name) % 2 ^ 64) 0)
    (archive_as (((a.length + length name) % 2 ^ 64 + 1) % 2 ^ 64) (successor a.entries))

-- `entry OFFSET NAME`: the offset, then the name; an archive without index stays
unfoldable pub entry_of : List ℕ → ℕ → Archive → List ℕ → Told
entry_of file at a line =
    cond (a.length == 0) (told_as file a)
    (named (put_word file ((at + offset_place a.entries) % 2 ^ 64) (number_at line 1)) ((at + a.length) % 2 ^ 64) a (name_at line 2))

-- `index BYTES`: the index whole
abbrev pub spelled_as : Archive → Spelled → Told
spelled_as a s = told_as s.to (archive_as s.count a.entries)

unfoldable pub index_of : List ℕ → ℕ → Archive → List ℕ → Told
index_of file at a line = spelled_as a (put_bytes file at (field_of line 1))
