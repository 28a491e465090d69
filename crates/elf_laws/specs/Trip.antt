-- The rows that the sections of a written file have of their own: of the file there is nothing in them but where its string tables lie.
-- Assumes nothing.
use Prim.Native.Nat.{ℕ, ◌+◌, ◌*◌, ◌/◌, ◌%◌, ◌<◌}
use Rattle.std.specs.Prelude.{◌≡◌, true, cond, eqb, ltb, get_or, take}
use mathlib.Core.List.{List, [], ◌∷◌, ◌++◌}
use Rattle.std.proofs.Math.ListN.{length}
use Rattle.merge_stages.specs.Stages.{Object, object_of}
use Rattle.elf_file.specs.declared.Header.{Header}
use Rattle.gabi.specs.File.{sht_strtab, sht_group, is_comdat}
use Rattle.elf_file.specs.Check.{excluded, section_ok}
use Rattle.elf_file.specs.Rows.{entries_in, contents_in, named_kind, strings_number, first_row_of, count_of, header_row_of}
use Rattle.elf_laws.specs.Object.{symbols_from, elements_from}
use Rattle.elf_laws.specs.Back.{Fields}
use Rattle.elf_laws.specs.Writer.{Section, placed, bodies, start, file_of}

unfoldable pub headers_over : List ℕ → List ℕ → ℕ → ℕ → List Header → List ℕ
headers_over file names e c [] = []
headers_over file names e c (h ∷ hs) = header_row_of file names h e c ++ headers_over file names (e + entries_in h) (c + contents_in h) hs

-- the sections' own bytes
unfoldable pub symbols_over : List Section → List ℕ
symbols_over [] = []
symbols_over (x ∷ xs) = symbols_from x.bytes 0 (entries_in (placed x 0)) ++ symbols_over xs

unfoldable pub elements_over : List Section → List ℕ
elements_over [] = []
elements_over (x ∷ xs) = elements_from x.kind x.bytes 0 (contents_in (placed x 0)) ++ elements_over xs

unfoldable pub places : ℕ → List Section → List Header
places at [] = []
places at (x ∷ xs) = placed x at ∷ places (at + length x.bytes) xs

-- every section's numbers fit their fields
abbrev pub Fit : List Section → Type 0
Fit xs = (x : Section) (i : ℕ) → i < length xs → Fields (placed (get_or xs i x) (start xs + length (bodies (take i xs))))

-- a section whose bytes are whole entries: it would pass as a file of its own
abbrev pub Whole : Section → Type 0
Whole x = section_ok (length x.bytes) (placed x 0) ≡ true

-- a section's names, if it is a string table that is loaded
unfoldable pub own_strings : Section → List ℕ
own_strings x = cond (excluded (placed x 0)) [] (cond (eqb x.kind sht_strtab) x.bytes [])

abbrev pub no_section : Section
no_section = record { name = 0; kind = 0; flags = 0; link = 0; info = 0; bytes = [] }

-- those of section s, with the sections' names
unfoldable pub own_names : ℕ → List Section → List ℕ
own_names s xs = cond (eqb s 0) [] (cond (ltb s (length xs)) (own_strings (get_or xs s no_section)) [])

unfoldable pub own_comdat : Section → ℕ
own_comdat x = cond (excluded (placed x 0)) 0 (cond (eqb x.kind sht_group) (is_comdat x.bytes) 0)

-- at that place of the file, with e entries and c cells of contents before
unfoldable pub own_row : List ℕ → Section → ℕ → ℕ → ℕ → List ℕ
own_row names x at e c =
    named_kind names (placed x 0)
    ∷ x.name
    ∷ (x.flags / 0x80000000 % 2 + x.flags / 0x200000 % 2 * 2 + x.flags / 2 % 2 * 4 + own_comdat x * 8)
    ∷ x.link
    ∷ x.info
    ∷ first_row_of (placed x at) e c
    ∷ count_of (placed x 0)
    ∷ length x.bytes
    ∷ []

unfoldable pub own_headers : List ℕ → ℕ → ℕ → ℕ → List Section → List ℕ
own_headers names at e c [] = []
own_headers names at e c (x ∷ xs) =
    own_row names x at e c ++ own_headers names (at + length x.bytes) (e + entries_in (placed x 0)) (c + contents_in (placed x 0)) xs

unfoldable pub own_rows : ℕ → List Section → Object
own_rows s xs =
    object_of (own_headers (own_names s xs) (start xs) 0 0 xs) (symbols_over xs) (elements_over xs) (file_of s xs) (strings_number s (length xs))
