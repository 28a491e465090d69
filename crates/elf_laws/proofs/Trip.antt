-- There and back: the rows of a file written from sections are the sections' rows.
-- Assumes nothing.
use Prim.Native.Nat.{ℕ, suc, ◌+◌, ◌<◌}
use native.Mathlib.Omega.{arith}
use Rattle.std.proofs.Common.{add-zero, zero-add, sym, ◌∙◌}
use Rattle.std.specs.Prelude.{◌≡◌, refl, eqb, ltb, get_or, take}
use Rattle.std.proofs.Math.Path.{ap, ap₂}
use mathlib.Core.List.{List, [], ◌∷◌, ◌++◌}
use Rattle.std.proofs.Math.ListN.{length, length-append}
use borrow.Author.Tests.{ltb-true}
use Rattle.cells.specs.Proof.Split.{by-test}
use Rattle.merge_stages.specs.Stages.{object_of}
use Rattle.gabi.specs.File.{section_count, header_table, name_section}
use Rattle.elf_file.specs.File.{header_at}
use Rattle.elf_file.specs.Check.{excluded}
use Rattle.elf_file.specs.Rows.{entries_in, contents_in, named_kind, strings_of, names_of, strings_number, comdat_of, flags_of, count_of, header_row_of}
use Rattle.elf_file.specs.Read.{bytes_of}
use Rattle.elf_laws.specs.Object.{headers_from, symbols_from, all_symbols_from, elements_from, all_elements_from, rows_of}
use Rattle.elf_laws.specs.Writer.{Section, placed, bodies, start, file_of}
use Rattle.elf_laws.proofs.Writer.{count-back, names-back, header_read, bytes_read}
use Rattle.elf_laws.specs.Trip.{headers_over, symbols_over, elements_over, places, Fit, own_strings, no_section, own_names, own_comdat, own_row, own_headers, own_rows}

-- ---- rows of headers in a list; their bytes by a function, in the sections' order

-- entries and contents are counted without the place
entries-placed : (x : Section) (a b : ℕ) → entries_in (placed x a) ≡ entries_in (placed x b)
unfolding entries_in excluded
entries-placed x a b = refl

contents-placed : (x : Section) (a b : ℕ) → contents_in (placed x a) ≡ contents_in (placed x b)
unfolding contents_in excluded
contents-placed x a b = refl

-- what a table shows of the sections from its header i on, placed from `at` on
pub record Shows (file table : List ℕ) (i at : ℕ) (xs : List Section) : Type 0 where
  pub header : (x : Section) (j : ℕ) → j < length xs → header_at table (i + j) ≡ placed (get_or xs j x) (at + length (bodies (take j xs)))
  pub bytes : (x : Section) (j : ℕ) → j < length xs → bytes_of file (placed (get_or xs j x) (at + length (bodies (take j xs)))) ≡ (get_or xs j x).bytes

module _ (file table : List ℕ) (i at : ℕ) (x : Section) (xs : List Section) where
  first : Shows file table i at (x ∷ xs) → header_at table i ≡ placed x at
  unfolding bodies
  first s = ap (header_at table) (sym (add-zero i)) ∙ s.header x 0 (omega arith) ∙ ap (placed x) (add-zero at)

  first-bytes : Shows file table i at (x ∷ xs) → bytes_of file (placed x at) ≡ x.bytes
  unfolding bodies
  first-bytes s = ap (λ (p : ℕ). bytes_of file (placed x p)) (sym (add-zero at)) ∙ s.bytes x 0 (omega arith)

  rest : Shows file table i at (x ∷ xs) → Shows file table (i + 1) (at + length x.bytes) xs
  unfolding bodies
  rest s =
      record {
        header =
            λ y j h.
            let p : i + 1 + j ≡ i + suc j = omega arith in
            ap (header_at table) p ∙ s.header y (suc j) (omega arith) ∙ ap (placed (get_or xs j y)) (sym (further j));
        bytes = λ y j h. ap (λ (q : ℕ). bytes_of file (placed (get_or xs j y) q)) (further j) ∙ s.bytes y (suc j) (omega arith);
      }
    where
      further : (j : ℕ) → at + length x.bytes + length (bodies (take j xs)) ≡ at + length (x.bytes ++ bodies (take j xs))
      further j = omega (arith, length-append x.bytes (bodies (take j xs)))

headers-over : (file names table : List ℕ) (xs : List Section) (i at e c : ℕ) → Shows file table i at xs
    → headers_from file names table i e c (length xs) ≡ headers_over file names e c (places at xs)
unfolding headers_from headers_over places
headers-over file names table [] i at e c s = refl
headers-over file names table (x ∷ xs) i at e c s =
    rw (first file table i at x xs s)
    (ap (◌++◌ (header_row_of file names (placed x at) e c))
    (headers-over file names table xs (i + 1) (at + length x.bytes) (e + entries_in (placed x at)) (c + contents_in (placed x at)) (rest file table i at x xs s)))

symbols-over : (file table : List ℕ) (xs : List Section) (i at : ℕ) → Shows file table i at xs → all_symbols_from file table i (length xs) ≡ symbols_over xs
unfolding all_symbols_from symbols_over
symbols-over file table [] i at s = refl
symbols-over file table (x ∷ xs) i at s =
    rw (first file table i at x xs s)
    (ap₂ ◌++◌
    (ap (λ (b : List ℕ). symbols_from b 0 (entries_in (placed x at))) (first-bytes file table i at x xs s)
    ∙ ap (symbols_from x.bytes 0) (entries-placed x at 0))
    (symbols-over file table xs (i + 1) (at + length x.bytes) (rest file table i at x xs s)))

elements-over : (file table : List ℕ) (xs : List Section) (i at : ℕ) → Shows file table i at xs → all_elements_from file table i (length xs) ≡ elements_over xs
unfolding all_elements_from elements_over
elements-over file table [] i at s = refl
elements-over file table (x ∷ xs) i at s =
    rw (first file table i at x xs s)
    (ap₂ ◌++◌
    (ap (λ (b : List ℕ). elements_from x.kind b 0 (contents_in (placed x at))) (first-bytes file table i at x xs s)
    ∙ ap (elements_from x.kind x.bytes 0) (contents-placed x at 0))
    (elements-over file table xs (i + 1) (at + length x.bytes) (rest file table i at x xs s)))

-- ---- the written file

module _ (s : ℕ) (xs : List Section) (z : length xs ≡ 0 → ⊥) (m : length xs < 0x10000) (fit : Fit xs) where
  shows : Shows (file_of s xs) (header_table (file_of s xs)) 0 (start xs) xs
  shows =
      record {
        header = λ x j h. ap (header_at (header_table (file_of s xs))) (zero-add j) ∙ header_read s xs z m x j h (fit x j h);
        bytes = λ x j h. bytes_read s xs x j h;
      }

  pub entries-trip : (rows_of (file_of s xs)).entries ≡ symbols_over xs
  unfolding rows_of
  entries-trip =
      ap (all_symbols_from (file_of s xs) (header_table (file_of s xs)) 0) (count-back s xs z m) ∙ symbols-over (file_of s xs) (header_table (file_of s xs)) xs 0 (start xs) shows

  pub contents-trip : (rows_of (file_of s xs)).contents ≡ elements_over xs
  unfolding rows_of
  contents-trip =
      ap (all_elements_from (file_of s xs) (header_table (file_of s xs)) 0) (count-back s xs z m) ∙ elements-over (file_of s xs) (header_table (file_of s xs)) xs 0 (start xs) shows

  pub headers-trip : (rows_of (file_of s xs)).headers
      ≡ headers_over (file_of s xs) (names_of (file_of s xs) (header_table (file_of s xs)) (name_section (file_of s xs)) (section_count (file_of s xs))) 0 0 (places (start xs) xs)
  unfolding rows_of
  headers-trip =
      let file = file_of s xs in
      let table = header_table file in
      let names = names_of file table (name_section file) (section_count file) in
      ap (headers_from file names table 0 0 0) (count-back s xs z m) ∙ headers-over file names table xs 0 (start xs) 0 0 shows

  pub strings-trip : s < 0xffff → (rows_of (file_of s xs)).section_names ≡ strings_number s (length xs)
  unfolding rows_of
  strings-trip h = ap₂ strings_number (names-back s xs h) (count-back s xs z m)

-- ---- the rows are the sections' own: of the file they have nothing but where its string tables lie

strings-own : (file : List ℕ) (x : Section) (at : ℕ) → bytes_of file (placed x at) ≡ x.bytes → strings_of file (placed x at) ≡ own_strings x
unfolding strings_of own_strings excluded
strings-own file x at e = rw e

row-own : (file names : List ℕ) (x : Section) (at e c : ℕ) → bytes_of file (placed x at) ≡ x.bytes → header_row_of file names (placed x at) e c ≡ own_row names x at e c
unfolding header_row_of own_row named_kind flags_of comdat_of own_comdat count_of entries_in contents_in excluded
row-own file names x at e c b = rw b

headers-own : (file names table : List ℕ) (xs : List Section) (i at e c : ℕ) → Shows file table i at xs
    → headers_over file names e c (places at xs) ≡ own_headers names at e c xs
unfolding headers_over places own_headers
headers-own file names table [] i at e c s = refl
headers-own file names table (x ∷ xs) i at e c s =
    ap₂ ◌++◌ (row-own file names x at e c (first-bytes file table i at x xs s))
    (ap₂ (λ (p q : ℕ). headers_over file names (e + p) (c + q) (places (at + length x.bytes) xs)) (entries-placed x at 0) (contents-placed x at 0)
    ∙ headers-own file names table xs (i + 1) (at + length x.bytes) (e + entries_in (placed x 0)) (c + contents_in (placed x 0)) (rest file table i at x xs s))

same_object : {h h' e e' c c' : List ℕ} → h ≡ h' → e ≡ e' → c ≡ c' → (file : List ℕ) → {s s' : ℕ} → s ≡ s' → object_of h e c file s ≡ object_of h' e' c' file s'
same_object {h} {h'} {e} {e'} {c} {c'} p q r file {s} {s'} t = simp (p, q, r, t)

module _ (s : ℕ) (xs : List Section) (z : length xs ≡ 0 → ⊥) (m : length xs < 0x10000) (fit : Fit xs) where
  abbrev file : List ℕ
  file = file_of s xs

  abbrev table : List ℕ
  table = header_table file

  names_in : names_of file table s (length xs) ≡ own_names s xs
  unfolding names_of own_names
  names_in =
      by-test (eqb s 0) (λ a. rw a)
      (λ a.
      by-test (ltb s (length xs))
      (λ b.
      let h : s < length xs = ltb-true s (length xs) b in
      let at = start xs + length (bodies (take s xs)) in
      rw (a, b)
      (ap (strings_of file) (header_read s xs z m no_section s h (fit no_section s h))
      ∙ strings-own file (get_or xs s no_section) at (bytes_read s xs no_section s h)))
      (λ b. rw (a, b)))

  -- the rows of a written file are its sections' own rows
  pub written-rows : s < 0xffff → rows_of file ≡ own_rows s xs
  unfolding rows_of own_rows
  written-rows h =
      let names : names_of file table (name_section file) (section_count file) ≡ own_names s xs = ap₂ (names_of file table) (names-back s xs h) (count-back s xs z m) ∙ names_in in
      let headers : headers_from file (names_of file table (name_section file) (section_count file)) table 0 0 0 (section_count file) ≡ own_headers (own_names s xs) (start xs) 0 0 xs =
      ap₂ (λ (l : List ℕ) (k : ℕ). headers_from file l table 0 0 0 k) names (count-back s xs z m)
      ∙ headers-over file (own_names s xs) table xs 0 (start xs) 0 0 (shows s xs z m fit)
      ∙ headers-own file (own_names s xs) table xs 0 (start xs) 0 0 (shows s xs z m fit) in
      let entries : all_symbols_from file table 0 (section_count file) ≡ symbols_over xs =
      ap (all_symbols_from file table 0) (count-back s xs z m) ∙ symbols-over file table xs 0 (start xs) (shows s xs z m fit) in
      let contents : all_elements_from file table 0 (section_count file) ≡ elements_over xs =
      ap (all_elements_from file table 0) (count-back s xs z m) ∙ elements-over file table xs 0 (start xs) (shows s xs z m fit) in
      let strings : strings_number (name_section file) (section_count file) ≡ strings_number s (length xs) = ap₂ strings_number (names-back s xs h) (count-back s xs z m) in
      same_object headers entries contents file strings
