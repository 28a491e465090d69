-- A file written from sections is not refused, if each section's bytes are whole entries: so what is said of files that are read is said of some.
-- Assumes nothing.
use Rattle.std.specs.Prelude.{ℕ, zero, suc, ◌+◌, ◌*◌, ◌/◌, ◌%◌, ◌<◌, ◌≤◌, ◌≡◌, Bool, true, List, [], ◌∷◌, eqb, get_or, take}
use Rattle.std.proofs.Common.{arith, add-zero, zero-add, not-suc-le-zero, le_of_suc-le-suc, sym, ◌∙◌}
use Rattle.std.proofs.Math.Path.{ap}
use Rattle.std.proofs.Math.Bool.{false}
use Rattle.std.proofs.Math.Dec.{ltb}
use Rattle.std.proofs.Math.ListN.{length, length-append}
use borrow.Author.Tests.{le-ltb}
use Rattle.cells.specs.Proof.Split.{by-test}
use Rattle.link.specs.Judge.{refused}
use Rattle.gabi.specs.File.{word_at}
use Rattle.elf_object.specs.Judge.{first_bad}
use Rattle.gabi.specs.File.{half_at, header_table}
use Rattle.elf_file.specs.File.{header_at}
use Rattle.elf_file.specs.Check.{is_object, headers_fit, excluded, entry_size, entries_ok, section_ok, table_ok, bad_table, file_refusal}
use Rattle.elf_laws.specs.Back.{joined}
use Rattle.elf_laws.specs.Writer.{Section, placed, headers_of, bodies, start, file_of}
use Rattle.elf_laws.proofs.Writer.{shoff-back, count-back, header_read, table-long}
use Rattle.elf_laws.specs.Trip.{Fit, Whole}

whole-placed : (x : Section) (at len : ℕ) → at + length x.bytes ≤ len → Whole x → section_ok len (placed x at) ≡ true
unfolding section_ok excluded
whole-placed x at len h g =
    by-test (eqb (x.flags / 0x80000000 % 2) 1) (λ a. rw a)
    (λ a.
    by-test (eqb (entry_size x.kind) 0) (λ b. rw (a, b))
    (λ b.
    let q : entries_ok x.kind (length x.bytes) (entry_size x.kind) ≡ true =
    rw (a, b, le-ltb (length x.bytes) (0 + length x.bytes) (omega arith)) at g in
    rw (a, b, le-ltb len (at + length x.bytes) h) q))

none-bad : (ok : ℕ → Bool) (k i : ℕ) → ((j : ℕ) → j < k → ok (i + j) ≡ true) → first_bad ok i k ≡ i + k
unfolding first_bad
none-bad ok zero i f = sym (add-zero i)
none-bad ok (suc k) i f =
    let t : ok i ≡ true = ap ok (sym (add-zero i)) ∙ f 0 (omega arith) in
    rw t
    (none-bad ok k (i + 1) (λ j h. let e : i + 1 + j ≡ i + suc j = omega arith in ap ok e ∙ f (suc j) (omega arith)) ∙ omega arith)

body-inside : (xs : List Section) (x : Section) (i : ℕ) → i < length xs → length (bodies (take i xs)) + length (get_or xs i x).bytes ≤ length (bodies xs)
unfolding bodies
body-inside [] x i h = absurd (not-suc-le-zero h)
body-inside (y ∷ xs) x zero h = omega (arith, length-append y.bytes (bodies xs))
body-inside (y ∷ xs) x (suc i) h =
    omega
    (arith, length-append y.bytes (bodies xs), length-append y.bytes (bodies (take i xs)), body-inside xs x i (le_of_suc-le-suc h))

module _ (s : ℕ) (xs : List Section) where
  file-long : length (file_of s xs) ≡ start xs + length (bodies xs)
  unfolding file_of
  file-long = omega (arith, length-append (joined (headers_of (start xs) xs)) (bodies xs), table-long xs)

  object-back : is_object (file_of s xs) ≡ true
  unfolding is_object file_of word_at half_at
  object-back = rw (le-ltb (length (file_of s xs)) 64 (omega (arith, file-long)))

  module _ (z : length xs ≡ 0 → ⊥) (m : length xs < 0x10000) where
    fit-back : headers_fit (length (file_of s xs)) 64 (length xs) ≡ true
    unfolding headers_fit
    fit-back =
        let a : 64 + 64 ≤ length (file_of s xs) = omega (arith, file-long) in
        let b : 64 + length xs * 64 ≤ length (file_of s xs) = omega (arith, file-long) in
        rw (le-ltb (length (file_of s xs)) (64 + 64) a, le-ltb (length (file_of s xs)) (64 + length xs * 64) b)

    module _ (fit : Fit xs) (whole : (x : Section) (i : ℕ) → i < length xs → Whole (get_or xs i x)) (x : Section) where
      table-ok : (i : ℕ) → i < length xs → table_ok (length (file_of s xs)) (header_table (file_of s xs)) (0 + i) ≡ true
      unfolding table_ok
      table-ok i h =
          let at = start xs + length (bodies (take i xs)) in
          ap (λ (k : ℕ). section_ok (length (file_of s xs)) (header_at (header_table (file_of s xs)) k)) (zero-add i)
          ∙ ap (section_ok (length (file_of s xs))) (header_read s xs z m x i h (fit x i h))
          ∙ whole-placed (get_or xs i x) at (length (file_of s xs)) (omega (arith, file-long, body-inside xs x i h)) (whole x i h)

      pub written-accepted : file_refusal (file_of s xs) ≡ refused 0 0
      unfolding file_refusal bad_table
      written-accepted =
          let n = length xs in
          let len = length (file_of s xs) in
          let table = header_table (file_of s xs) in
          let bad : first_bad (table_ok len table) 0 n ≡ 0 + n = none-bad (table_ok len table) n 0 table-ok in
          let last : ltb (first_bad (table_ok len table) 0 n) n ≡ false = le-ltb _ n (omega (arith, bad)) in
          rw (object-back, shoff-back s xs, count-back s xs z m, fit-back, last)
