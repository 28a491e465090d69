-- The bytes of a header, of a symbol and of fields of 2, 4 and 8 bytes, as a writer puts them into a file; entries of one size, one after the other.
-- Assumes nothing.
use Rattle.std.specs.Prelude.{ℕ, ◌+◌, ◌*◌, ◌/◌, ◌%◌, ◌<◌, ◌≡◌, List, [], ◌∷◌, ◌++◌, length}
use Rattle.elf_file.specs.declared.Header.{Header}

abbrev pub le2 : ℕ → List ℕ → List ℕ
le2 v r = v % 0x100 ∷ v / 0x100 % 0x100 ∷ r

abbrev pub le4 : ℕ → List ℕ → List ℕ
le4 v r = v % 0x100 ∷ v / 0x100 % 0x100 ∷ v / 0x100 / 0x100 % 0x100 ∷ v / 0x100 / 0x100 / 0x100 % 0x100 ∷ r

abbrev pub le8 : ℕ → List ℕ → List ℕ
le8 v r = le4 (v % 0x100000000) (le4 (v / 0x100000000) r)

-- ---- a section header

abbrev pub header_bytes : Header → List ℕ
header_bytes h =
    le4 h.name (le4 h.kind (le8 h.flags (le8 0 (le8 h.offset (le8 h.size (le4 h.link (le4 h.info (le8 0 (le8 0 [])))))))))

pub record Fields (h : Header) : Type 0 where
  pub name : h.name < 0x100000000
  pub kind : h.kind < 0x100000000
  pub flags : h.flags < 0x10000000000000000
  pub offset : h.offset < 0x10000000000000000
  pub size : h.size < 0x10000000000000000
  pub link : h.link < 0x100000000
  pub info : h.info < 0x100000000

-- ---- a symbol

abbrev pub symbol_bytes : ℕ → ℕ → ℕ → ℕ → ℕ → ℕ → ℕ → List ℕ
symbol_bytes name bind type visibility section value size = le4 name ((bind * 16 + type) ∷ visibility ∷ le2 section (le8 value (le8 size [])))

-- ---- entries of one size, one after the other

pub record Sized (s : ℕ) : Type 0 where
  pub bytes : List ℕ
  pub is : length bytes ≡ s

unfoldable pub joined : {s : ℕ} → List (Sized s) → List ℕ
joined [] = []
joined (x ∷ xs) = x.bytes ++ joined xs
