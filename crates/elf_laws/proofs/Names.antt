-- The names that kind 11 is judged by are the names that a merge of the rows looks up: one loop suffices, over the file's own headers.
-- Assumes nothing.
use Rattle.std.specs.Prelude.{ℕ, zero, suc, ◌+◌, ◌/◌, ◌%◌, ◌<◌, ◌≤◌, ◌≡◌, Bool, cond, ◌&&◌, ltb, get_or}
use Rattle.std.proofs.Common.{arith, ◌∙◌}
use Rattle.std.proofs.Math.Path.{refl, sym, ap}
use Rattle.std.proofs.Math.Bool.{true, false}
use mathlib.Core.List.{List, [], ◌∷◌}
use Rattle.std.proofs.Math.Dec.{eqb}
use borrow.Author.Tests.{eq-eqb, eqb-true, ltb-true, ltb-false, lt-leb, le-leb}
use Rattle.cells.specs.Proof.Split.{by-test}
use Rattle.byte_slices.specs.Proof.Ways.{apart}
use Rattle.byte_slices.specs.Bytes.{same, part}
use Rattle.gabi.specs.StringTable.{name_at}
use Rattle.gabi.proofs.StringTableLaws.{name-empty}
use Rattle.strings.specs.Lookup.{Looked, looked, look_up}
use Rattle.elf_object.specs.Rows.{rows_in, kind_at, flags_at, first_at, count_at, is_excluded, is_loaded, name_in}
use Rattle.elf_file.specs.declared.Header.{Header}
use Rattle.gabi.specs.File.{section_count, header_table, name_section}
use Rattle.elf_file.specs.File.{header_at}
use Rattle.elf_file.specs.Check.{excluded}
use Rattle.elf_file.specs.Rows.{entry_count, content_count, kinds, kind_of, eh_frame_hdr, named_kind, names_of, strings_number, flags_of, first_row_of, count_of, header_row_of}
use Rattle.elf_laws.proofs.NameWays.{excluded-yes, excluded-no, number-none, number_is, number_past, names-none, names_in, names-past, strings-none, strings-part, strings-other}
use Rattle.elf_laws.specs.Object.{headers_from, rows_of}
use Rattle.elf_laws.proofs.Written.{length-headers}
use Rattle.elf_laws.proofs.Rows.{header_row}
use Rattle.elf_laws.proofs.Ranges.{typed, both}

-- ---- kind 4 is section type 3 and nothing else

fours : ℕ → List ℕ → Bool
fours i [] = true
fours i (x ∷ xs) = cond (eqb x 4) (eqb i 3) true && fours (suc i) xs

four-at : (l : List ℕ) (i t : ℕ) → fours i l ≡ true → eqb (get_or l t 0) 4 ≡ true → i + t ≡ 3
unfolding fours
four-at [] i t e q = absurd (apart q)
four-at (x ∷ xs) i zero e q =
    let b : cond (eqb x 4) (eqb i 3) true ≡ true = (both (cond (eqb x 4) (eqb i 3) true) (fours (suc i) xs) e).0 in
    let g : eqb i 3 ≡ true = rw q at b in
    omega (arith, eqb-true i 3 g)
four-at (x ∷ xs) i (suc t) e q = omega (arith, four-at xs (suc i) t (both (cond (eqb x 4) (eqb i 3) true) (fours (suc i) xs) e).1 q)

no-four : (t : ℕ) → eqb t 3 ≡ false → eqb (kind_of t) 4 ≡ false
unfolding kind_of fours
no-four t n =
    by-test (eqb (kind_of t) 4)
    (λ y.
    by-test (eqb t 0x6ffffff6) (λ a. absurd (apart (rw a at y)))
    (λ a.
    by-test (ltb t 18)
    (λ b.
    let z : eqb (get_or kinds t 0) 4 ≡ true = rw (a, b) at y in
    let e : t ≡ 3 = omega (arith, four-at kinds 0 t refl z) in
    absurd (apart (sym n ∙ eq-eqb _ _ e)))
    (λ b. absurd (apart (rw (a, b) at y)))))
    (λ y. y)

not-strings : (names : List ℕ) (h : Header) → eqb h.kind 3 ≡ false → eqb (named_kind names h) 4 ≡ false
unfolding named_kind
not-strings names h n =
    by-test (eqb h.kind 1)
    (λ a. by-test (same (name_at names h.name) eh_frame_hdr) (λ b. rw (a, b)) (λ b. rw (a, b)))
    (λ a. rw a (no-four h.kind n))

-- ---- the name of an offset, by the rows

module _ (hs file : List ℕ) (m o : ℕ) where
  past : rows_in hs ≤ m → name_in hs file m o ≡ looked [] false
  unfolding name_in is_loaded
  past h = rw (le-leb (rows_in hs) m h)

  gone : m < rows_in hs → eqb (flags_at hs m % 2) 1 ≡ true → name_in hs file m o ≡ looked [] false
  unfolding name_in is_loaded is_excluded
  gone h x = rw (lt-leb (rows_in hs) m h, x)

  other : m < rows_in hs → eqb (flags_at hs m % 2) 1 ≡ false → eqb (kind_at hs m) 4 ≡ false → name_in hs file m o ≡ looked [] false
  unfolding name_in is_loaded is_excluded
  other h x k = rw (lt-leb (rows_in hs) m h, x, k)

  there : (f c : ℕ) → m < rows_in hs → eqb (flags_at hs m % 2) 1 ≡ false → kind_at hs m ≡ 4 → first_at hs m ≡ f → count_at hs m ≡ c
      → name_in hs file m o ≡ look_up (part file f c) o
  unfolding name_in is_loaded is_excluded
  there f c h x k p q = rw (lt-leb (rows_in hs) m h, x, k, p, q)

-- ---- by the file

four : (names : List ℕ) (h : Header) → eqb h.kind 3 ≡ true → named_kind names h ≡ 4
unfolding kind_of
four names h t = typed names h 3 t refl

low : (v : ℕ) (file : List ℕ) (h : Header) → v ≡ flags_of file h → v % 2 ≡ h.flags / 0x80000000 % 2
unfolding flags_of
low v file h e = omega (arith, e)

string-place : (h : Header) (e c : ℕ) → excluded h ≡ false → h.kind ≡ 3 → (first_row_of h e c ≡ h.offset) × (count_of h ≡ h.size)
unfolding first_row_of count_of
string-place h e c x k =
    let two : eqb h.kind 2 ≡ false = ap (λ (z : ℕ). eqb z 2) k in
    let three : eqb h.kind 3 ≡ true = ap (λ (z : ℕ). eqb z 3) k in
    (rw (x, two, three), rw (x, two, three))

module _ (file : List ℕ) (o : ℕ) where
  none : (t : List ℕ) (r : Looked) → r ≡ looked [] false → [] ≡ t → r.name ≡ name_at t o
  none t r e q = ap (λ (x : Looked). x.name) e ∙ sym (name-empty o) ∙ ap (λ (l : List ℕ). name_at l o) q

  pub names-agree : (name_in (rows_of file).headers file (rows_of file).section_names o).name
      ≡ name_at (names_of file (header_table file) (name_section file) (section_count file)) o
  unfolding rows_of header_row_of excluded
  names-agree =
      let n = section_count file in
      let table = header_table file in
      let s = name_section file in
      let names = names_of file table s n in
      let hs = headers_from file names table 0 0 0 n in
      let rows : rows_in hs ≡ n = omega (arith, length-headers file names table 0 0 0 n) in
      by-test (eqb s 0)
      (λ a.
      let z : s ≡ 0 = eqb-true s 0 a in
      let m : strings_number s n ≡ n = sym (number-none s n n z refl) in
      ap (λ (k : ℕ). (name_in hs file k o).name) m ∙ none names _ (past hs file n o (omega (arith, rows))) (names-none file table [] s n z refl))
      (λ a.
      let z : s ≡ 0 → ⊥ = λ w. apart (sym a ∙ eq-eqb s 0 w) in
      by-test (ltb s n)
      (λ b.
      let g : s < n = ltb-true s n b in
      let m : strings_number s n ≡ s = sym (number_is s n s z g refl) in
      let r : s < rows_in hs = omega (arith, rows) in
      let h = header_at table s in
      let e = entry_count table 0 s in
      let c = content_count table 0 s in
      let k : kind_at hs s ≡ named_kind names h = header_row file names table n s 0 g (omega arith) in
      let f : flags_at hs s ≡ flags_of file h = header_row file names table n s 2 g (omega arith) in
      let p : first_at hs s ≡ first_row_of h e c = header_row file names table n s 5 g (omega arith) in
      let q : count_at hs s ≡ count_of h = header_row file names table n s 6 g (omega arith) in
      let x : flags_at hs s % 2 ≡ h.flags / 0x80000000 % 2 = low (flags_at hs s) file h f in
      let x1 : eqb (flags_at hs s % 2) 1 ≡ eqb (h.flags / 0x80000000 % 2) 1 = ap (λ (v : ℕ). eqb v 1) x in
      ap (λ (k : ℕ). (name_in hs file k o).name) m
      ∙ by-test (eqb (h.flags / 0x80000000 % 2) 1)
      (λ y.
      let ex : true ≡ excluded h = excluded-yes h true (eqb-true _ _ y) refl in
      none names _ (gone hs file s o r (x1 ∙ y)) (names_in file table [] s n h z g refl (strings-none file [] h true ex refl refl)))
      (λ y.
      let ex : false ≡ excluded h = excluded-no h false (λ w. apart (sym y ∙ eq-eqb _ _ w)) refl in
      by-test (eqb h.kind 3)
      (λ t.
      let three : h.kind ≡ 3 = eqb-true _ _ t in
      let at = string-place h e c (sym ex) three in
      ap (λ (x : Looked). x.name) (there hs file s o h.offset h.size r (x1 ∙ y) (k ∙ four names h t) (p ∙ at.0) (q ∙ at.1))
      ∙ ap (λ (l : List ℕ). name_at l o)
      (names_in file table (part file h.offset h.size) s n h z g refl (strings-part file (part file h.offset h.size) h false ex refl three refl)))
      (λ t.
      none names _ (other hs file s o r (x1 ∙ y) (ap (λ (v : ℕ). eqb v 4) k ∙ not-strings names h t))
      (names_in file table [] s n h z g refl (strings-other file [] h false ex refl (λ w. apart (sym t ∙ eq-eqb _ _ w)) refl)))))
      (λ b.
      let m : strings_number s n ≡ n = sym (number_past s n n z (ltb-false s n b) refl) in
      ap (λ (k : ℕ). (name_in hs file k o).name) m ∙ none names _ (past hs file n o (omega (arith, rows))) (names-past file table [] s n z (ltb-false s n b) refl)))
