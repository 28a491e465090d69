-- An archive file: eight bytes, then members one behind the other, each at an even place: a header of 60 bytes, then the member's bytes. A header's fields are
-- text, filled up with blanks: the name in 16 bytes, at 48 the size in decimal digits, at 58 a back quote and a line end. As ar of GNU and System V write it
-- the first member, named /, is the index of symbols, and the one named // holds the names that have no room in a header: /123 stands for the one at its byte
-- 123, which a slash and a line end close.
-- Assumes nothing.
use Rattle.std.specs.Prelude.{ℕ, ◌+◌, ◌-◌, ◌%◌, Bool, true, false, cond, List, [], ◌∷◌, eqb, leb, ltb, length, take, drop, get_or, Option, Some, None}
use Rattle.gabi.specs.File.{bytes_at}
use Rattle.byte_slices.specs.Bytes.{same}
use Rattle.text.specs.Decimal.{decimal_of}
use Rattle.archive_file.specs.declared.Front.{Front}
use Rattle.archive_file.specs.declared.Label.{Label}
use Rattle.archive_file.specs.declared.Label.TheVariants as Label
use Rattle.archive_file.specs.declared.Member.{Member}

-- ---- the file

-- !<arch> and a line end
abbrev pub magic : List ℕ
magic = 33 ∷ 60 ∷ 97 ∷ 114 ∷ 99 ∷ 104 ∷ 62 ∷ 10 ∷ []

-- !<thin> and a line end: only headers, the members' bytes are in files of their own
abbrev pub thin_magic : List ℕ
thin_magic = 33 ∷ 60 ∷ 116 ∷ 104 ∷ 105 ∷ 110 ∷ 62 ∷ 10 ∷ []

abbrev pub magic_size : ℕ
magic_size = 8

abbrev pub header_size : ℕ
header_size = 60

unfoldable pub is_archive : List ℕ → Bool
is_archive file = same (bytes_at file 0 magic_size) magic

unfoldable pub is_thin : List ℕ → Bool
is_thin file = same (bytes_at file 0 magic_size) thin_magic

-- ---- fields

abbrev pub blank : ℕ
blank = 32

abbrev pub slash : ℕ
slash = 47

abbrev pub line_end : ℕ
line_end = 10

-- what stands before the first byte of that value; all of it where there is none
unfoldable pub until : ℕ → List ℕ → List ℕ
until end [] = []
until end (b ∷ bs) = cond (eqb b end) [] (b ∷ until end bs)

unfoldable pub without_slash : List ℕ → List ℕ
without_slash x = cond (eqb (get_or x (length x - 1) 0) slash) (take (length x - 1) x) x

unfoldable pub name_field : List ℕ → ℕ → List ℕ
name_field file at = bytes_at file at 16

unfoldable pub size_field : List ℕ → ℕ → Option ℕ
size_field file at = decimal_of (until blank (bytes_at file (at + 48) 10))

-- a back quote and a line end
unfoldable pub has_end : List ℕ → ℕ → Bool
has_end file at = same (bytes_at file (at + 58) 2) (96 ∷ line_end ∷ [])

-- ---- a member

abbrev pub member_as : ℕ → ℕ → Member
member_as start size = record { start = start; size = size }

unfoldable pub sized : List ℕ → ℕ → Option ℕ → Option Member
sized file start None = None
sized file start (Some size) = cond (leb start (length file)) (cond (leb size (length file - start)) (Some (member_as start size)) None) None

-- the member whose header is at the place; none where the header is none, or it or the bytes are cut
unfoldable pub member_of : List ℕ → ℕ → Option Member
member_of file at = cond (has_end file at) (sized file (at + header_size) (size_field file at)) None

-- the next even place behind it
unfoldable pub after_of : Member → ℕ
after_of m = m.start + m.size + (m.start + m.size) % 2

abbrev pub after_each : Option Member → Option ℕ
after_each None = None
after_each (Some m) = Some (after_of m)

-- where the header of the member behind it is, or would be
unfoldable pub next_of : List ℕ → ℕ → Option ℕ
next_of file at = after_each (member_of file at)

-- ---- its name

-- a slash ends it, so that it may hold blanks; without a slash a blank does
unfoldable pub short_name : List ℕ → List ℕ
short_name field = cond (ltb (length (until slash field)) (length field)) (until slash field) (until blank field)

-- the name at byte k of the long names
unfoldable pub long_name : List ℕ → ℕ → List ℕ
long_name names k = without_slash (until line_end (drop k names))

abbrev pub name_by : List ℕ → List ℕ → Option ℕ → List ℕ
name_by names field None = short_name field
name_by names field (Some k) = long_name names k

-- the digits behind a slash
unfoldable pub long_place : List ℕ → Option ℕ
long_place field = cond (eqb (get_or field 0 0) slash) (decimal_of (until blank (bytes_at field 1 15))) None

-- the name of the member whose header is at the place, with the bytes of the long names
unfoldable pub name_of : List ℕ → List ℕ → ℕ → List ℕ
name_of file names at = name_by names (name_field file at) (long_place (name_field file at))

-- ---- the members that are the archive's own

-- /
abbrev pub index_name : List ℕ
index_name = 47 ∷ 32 ∷ 32 ∷ 32 ∷ 32 ∷ 32 ∷ 32 ∷ 32 ∷ 32 ∷ 32 ∷ 32 ∷ 32 ∷ 32 ∷ 32 ∷ 32 ∷ 32 ∷ []

-- //
abbrev pub long_names_name : List ℕ
long_names_name = 47 ∷ 47 ∷ 32 ∷ 32 ∷ 32 ∷ 32 ∷ 32 ∷ 32 ∷ 32 ∷ 32 ∷ 32 ∷ 32 ∷ 32 ∷ 32 ∷ 32 ∷ 32 ∷ []

-- /SYM64/, an index whose offsets have 64 bits
abbrev pub wide_index_name : List ℕ
wide_index_name = 47 ∷ 83 ∷ 89 ∷ 77 ∷ 54 ∷ 52 ∷ 47 ∷ 32 ∷ 32 ∷ 32 ∷ 32 ∷ 32 ∷ 32 ∷ 32 ∷ 32 ∷ 32 ∷ []

-- __.SYMDEF, the index of BSD
abbrev pub bsd_index_name : List ℕ
bsd_index_name = 95 ∷ 95 ∷ 46 ∷ 83 ∷ 89 ∷ 77 ∷ 68 ∷ 69 ∷ 70 ∷ 32 ∷ 32 ∷ 32 ∷ 32 ∷ 32 ∷ 32 ∷ 32 ∷ []

-- what a member is, by the name in its header
unfoldable pub label_of : List ℕ → Label
label_of field =
    cond (same field index_name) Label.Index
    (cond (same field long_names_name) Label.LongNames
    (cond (same field wide_index_name) Label.OtherIndex (cond (same field bsd_index_name) Label.OtherIndex Label.Own)))

abbrev pub front_as : Option Member → Option Member → Bool → ℕ → Front
front_as index names other first = record { index = index; long_names = names; other_index = other; first = first }

abbrev pub with_member : Front → Member → Label → Front
with_member f m Label.Index = front_as (Some m) f.long_names f.other_index (after_of m)
with_member f m Label.LongNames = front_as f.index (Some m) f.other_index (after_of m)
with_member f m Label.OtherIndex = front_as f.index f.long_names true (after_of m)
with_member f m Label.Own = f

abbrev pub with_found : Front → Label → Option Member → Front
with_found f label None = f
with_found f label (Some m) = with_member f m label

-- the member at `first`, where it is one of the archive's own
unfoldable pub passed : List ℕ → Front → Front
passed file f = with_found f (label_of (name_field file f.first)) (member_of file f.first)

abbrev pub nothing : Front
nothing = front_as None None false magic_size

-- an index, one of the other kind, long names: no archive has more of its own
unfoldable pub front_of : List ℕ → Front
front_of file = passed file (passed file (passed file nothing))
