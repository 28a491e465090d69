-- The cases of the section names, as the laws meet them.
-- Assumes nothing.
use Rattle.std.specs.Prelude.{ℕ, ◌/◌, ◌%◌, ◌<◌, ◌≤◌, ◌≡◌, Bool, true, false, List, []}
use borrow.Author.Tests.{eq-eqb, ne_eqb, lt-ltb, le-ltb}
use Rattle.byte_slices.specs.Bytes.{part}
use Rattle.elf_file.specs.declared.Header.{Header}
use Rattle.elf_file.specs.File.{header_at}
use Rattle.elf_file.specs.Check.{excluded}
use Rattle.elf_file.specs.Rows.{strings_of, names_of, strings_number}

module _ (h : Header) (t : Bool) where
  pub excluded-yes : h.flags / 0x80000000 % 2 ≡ 1 → t ≡ true → t ≡ excluded h
  unfolding excluded
  excluded-yes e q = simp (q, eq-eqb _ _ e)

  pub excluded-no : (h.flags / 0x80000000 % 2 ≡ 1 → ⊥) → t ≡ false → t ≡ excluded h
  unfolding excluded
  excluded-no e q = simp (q, ne_eqb _ _ e)

module _ (file t : List ℕ) (h : Header) (x : Bool) where
  pub strings-none : x ≡ excluded h → x ≡ true → t ≡ [] → t ≡ strings_of file h
  unfolding strings_of
  strings-none e f q = simp (q, ← e, f)

  pub strings-part : x ≡ excluded h → x ≡ false → h.kind ≡ 3 → t ≡ part file h.offset h.size → t ≡ strings_of file h
  unfolding strings_of
  strings-part e f k q = simp (q, ← e, f, eq-eqb _ _ k)

  pub strings-other : x ≡ excluded h → x ≡ false → (h.kind ≡ 3 → ⊥) → t ≡ [] → t ≡ strings_of file h
  unfolding strings_of
  strings-other e f k q = simp (q, ← e, f, ne_eqb _ _ k)

module _ (file table t : List ℕ) (s n : ℕ) where
  pub names-none : s ≡ 0 → t ≡ [] → t ≡ names_of file table s n
  unfolding names_of
  names-none e q = simp (q, eq-eqb _ _ e)

  pub names_in : (h : Header) → (s ≡ 0 → ⊥) → s < n → h ≡ header_at table s → t ≡ strings_of file h → t ≡ names_of file table s n
  unfolding names_of
  names_in h e l g q = simp (q, ne_eqb _ _ e, lt-ltb _ _ l, g)

  pub names-past : (s ≡ 0 → ⊥) → n ≤ s → t ≡ [] → t ≡ names_of file table s n
  unfolding names_of
  names-past e l q = simp (q, ne_eqb _ _ e, le-ltb _ _ l)

module _ (s n t : ℕ) where
  pub number-none : s ≡ 0 → t ≡ n → t ≡ strings_number s n
  unfolding strings_number
  number-none e q = simp (q, eq-eqb _ _ e)

  pub number_is : (s ≡ 0 → ⊥) → s < n → t ≡ s → t ≡ strings_number s n
  unfolding strings_number
  number_is e h q = simp (q, ne_eqb _ _ e, lt-ltb _ _ h)

  pub number_past : (s ≡ 0 → ⊥) → n ≤ s → t ≡ n → t ≡ strings_number s n
  unfolding strings_number
  number_past e h q = simp (q, ne_eqb _ _ e, le-ltb _ _ h)
