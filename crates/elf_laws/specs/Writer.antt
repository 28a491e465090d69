-- A file that is written from sections: ELF header, headers, and the sections' bytes one after the other.
-- Assumes nothing.
use Rattle.std.specs.Prelude.{ℕ, ◌+◌, ◌*◌, refl, List, [], ◌∷◌, ◌++◌, length}
use Rattle.elf_file.specs.declared.Header.{Header}
use Rattle.elf_laws.specs.Back.{le2, le4, le8, header_bytes, Sized, joined}

-- a section before it has a place in a file
pub record Section : Type 0 where
  pub name : ℕ
  pub kind : ℕ
  pub flags : ℕ
  pub link : ℕ
  pub info : ℕ
  pub bytes : List ℕ

abbrev pub placed : Section → ℕ → Header
placed x at =
    record { name = x.name; kind = x.kind; flags = x.flags; offset = at; size = length x.bytes; link = x.link; info = x.info }

abbrev pub sized : Header → Sized 64
sized h = record { bytes = header_bytes h; is = refl }

-- headers of sections whose bytes stand one after the other
unfoldable pub headers_of : ℕ → List Section → List (Sized 64)
headers_of at [] = []
headers_of at (x ∷ xs) = sized (placed x at) ∷ headers_of (at + length x.bytes) xs

unfoldable pub bodies : List Section → List ℕ
bodies [] = []
bodies (x ∷ xs) = x.bytes ++ bodies xs

-- the ELF header of a relocatable file of n sections, whose headers follow
abbrev pub elf_header : ℕ → ℕ → List ℕ → List ℕ
elf_header n s r =
    0x7f ∷ 69 ∷ 76 ∷ 70 ∷ 2 ∷ 1 ∷ 1 ∷ 0
    ∷ le8 0 (le2 1 (le2 62 (le4 1 (le8 0 (le8 0 (le8 64 (le4 0 (le2 64 (le2 0 (le2 0 (le2 64 (le2 n (le2 s r)))))))))))))

abbrev pub start : List Section → ℕ
start xs = 64 + length xs * 64

unfoldable pub file_of : ℕ → List Section → List ℕ
file_of s xs = elf_header (length xs) s (joined (headers_of (start xs) xs) ++ bodies xs)
