-- Laws of the definitions of Writer.antt.
-- Assumes nothing.
use Rattle.std.specs.Prelude.{ℕ, zero, suc, ◌+◌, ◌*◌, ◌<◌, ◌≡◌, get_or, take, drop}
use Rattle.std.proofs.Common.{arith, add-zero, not-suc-le-zero, le_of_suc-le-suc, ◌∙◌, length-append, take_at}
use Rattle.std.proofs.Math.Path.{refl, sym, ap}
use mathlib.Core.List.{List, [], ◌∷◌, ◌++◌}
use Rattle.std.proofs.Math.ListN.{length}
use Rattle.std.proofs.Math.Seq.{drop-append-add}
use borrow.Author.Tests.{ne_eqb}
use Rattle.byte_slices.specs.Bytes.{part}
use Rattle.gabi.specs.File.{word_at}
use Rattle.elf_file.specs.declared.Header.{Header}
use Rattle.gabi.specs.File.{half_at, xword_at, e_shoff, e_shnum, e_shstrndx, section_count, header_table, name_section}
use Rattle.elf_file.specs.File.{header_of, header_at}
use Rattle.elf_file.specs.Read.{bytes_of}
use Rattle.elf_laws.specs.Back.{Fields, Sized, joined}
use Rattle.elf_laws.proofs.Back.{half_back, header-back, entry-back, length-joined}
use Rattle.elf_laws.specs.Writer.{Section, placed, sized, headers_of, bodies, elf_header, start, file_of}

-- ---- the head

module _ (s : ℕ) (xs : List Section) where
  pub shoff-back : e_shoff (file_of s xs) ≡ 64
  unfolding file_of word_at xword_at
  shoff-back = refl

  shnum-back : length xs < 0x10000 → e_shnum (file_of s xs) ≡ length xs
  unfolding file_of half_at
  shnum-back h = half_back (length xs) h

  pub count-back : (length xs ≡ 0 → ⊥) → length xs < 0x10000 → section_count (file_of s xs) ≡ length xs
  unfolding section_count
  count-back z h =
      let n : e_shnum (file_of s xs) ≡ length xs = shnum-back h in
      let e : e_shnum (file_of s xs) ≡ 0 → ⊥ = λ q. z (sym n ∙ q) in
      rw (shoff-back, ne_eqb _ _ e) n

  index : s < 0x10000 → e_shstrndx (file_of s xs) ≡ s
  unfolding file_of half_at
  index h = half_back s h

  pub names-back : s < 0xffff → name_section (file_of s xs) ≡ s
  unfolding name_section
  names-back h =
      let n : e_shstrndx (file_of s xs) ≡ s = index (omega arith) in
      let e : e_shstrndx (file_of s xs) ≡ 0xffff → ⊥ = λ q. let w : s ≡ 0xffff = sym n ∙ q in omega (arith, w) in
      rw (ne_eqb _ _ e) n

-- ---- headers

length-headers_of : (at : ℕ) (xs : List Section) → length (headers_of at xs) ≡ length xs
unfolding headers_of
length-headers_of at [] = refl
length-headers_of at (x ∷ xs) = ap suc (length-headers_of (at + length x.bytes) xs)

header-of : (at : ℕ) (xs : List Section) (d : Sized 64) (x : Section) (i : ℕ) → i < length xs
    → get_or (headers_of at xs) i d ≡ sized (placed (get_or xs i x) (at + length (bodies (take i xs))))
unfolding headers_of bodies
header-of at [] d x i h = absurd (not-suc-le-zero h)
header-of at (y ∷ xs) d x zero h = ap (λ (p : ℕ). sized (placed y p)) (sym (add-zero at))
header-of at (y ∷ xs) d x (suc i) h =
    let n = length (bodies (take i xs)) in
    let e : at + length y.bytes + n ≡ at + length (y.bytes ++ bodies (take i xs)) = omega (arith, length-append y.bytes (bodies (take i xs))) in
    header-of (at + length y.bytes) xs d x i (le_of_suc-le-suc h) ∙ ap (λ (p : ℕ). sized (placed (get_or xs i x) p)) e

pub table-long : (xs : List Section) → length (joined (headers_of (start xs) xs)) ≡ length xs * 64
table-long xs = length-joined (headers_of (start xs) xs) ∙ ap (λ (k : ℕ). k * 64) (length-headers_of (start xs) xs)

cut : (s : ℕ) (xs : List Section) → part (file_of s xs) 64 (length xs * 64) ≡ joined (headers_of (start xs) xs)
unfolding file_of
cut s xs = take_at (joined (headers_of (start xs) xs)) (bodies xs) (length xs * 64) (table-long xs)

module _ (s : ℕ) (xs : List Section) (z : length xs ≡ 0 → ⊥) (m : length xs < 0x10000) where
  pub table-back : header_table (file_of s xs) ≡ joined (headers_of (start xs) xs)
  unfolding header_table
  table-back = rw (shoff-back s xs, count-back s xs z m) (cut s xs)

  -- header i, with its place in the file
  pub header_read : (x : Section) (i : ℕ) → i < length xs → Fields (placed (get_or xs i x) (start xs + length (bodies (take i xs))))
      → header_at (header_table (file_of s xs)) i ≡ placed (get_or xs i x) (start xs + length (bodies (take i xs)))
  unfolding header_at
  header_read x i h f =
      let p : Header = placed (get_or xs i x) (start xs + length (bodies (take i xs))) in
      let inside : i < length (headers_of (start xs) xs) = omega (arith, length-headers_of (start xs) xs) in
      ap (λ (t : List ℕ). header_of (part t (i * 64) 64)) table-back
      ∙ ap header_of (entry-back (headers_of (start xs) xs) (sized p) i inside)
      ∙ ap (λ (e : Sized 64). header_of e.bytes) (header-of (start xs) xs (sized p) x i h)
      ∙ header-back p f

-- ---- bytes

body_of : (xs : List Section) (x : Section) (i : ℕ) → i < length xs
    → take (length (get_or xs i x).bytes) (drop (length (bodies (take i xs))) (bodies xs)) ≡ (get_or xs i x).bytes
unfolding bodies
body_of [] x i h = absurd (not-suc-le-zero h)
body_of (y ∷ xs) x zero h = take_at y.bytes (bodies xs) (length y.bytes) refl
body_of (y ∷ xs) x (suc i) h =
    let b = (get_or xs i x).bytes in
    let n = length (bodies (take i xs)) in
    ap (λ (k : ℕ). take (length b) (drop k (y.bytes ++ bodies xs))) (length-append y.bytes (bodies (take i xs)))
    ∙ ap (take (length b)) (drop-append-add y.bytes (bodies xs) n)
    ∙ body_of xs x i (le_of_suc-le-suc h)

-- the bytes of section i, where its header says
pub bytes_read : (s : ℕ) (xs : List Section) (x : Section) (i : ℕ) → i < length xs
    → bytes_of (file_of s xs) (placed (get_or xs i x) (start xs + length (bodies (take i xs)))) ≡ (get_or xs i x).bytes
unfolding file_of
bytes_read s xs x i h =
    let j = joined (headers_of (start xs) xs) in
    let front = elf_header (length xs) s j in
    let n = length (bodies (take i xs)) in
    let b = (get_or xs i x).bytes in
    let e : start xs + n ≡ length front + n = omega (arith, table-long xs) in
    ap (λ (k : ℕ). take (length b) (drop k (front ++ bodies xs))) e ∙ ap (take (length b)) (drop-append-add front (bodies xs) n) ∙ body_of xs x i h
