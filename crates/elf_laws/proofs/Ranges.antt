-- The rows of a file that isn't refused are in range: of refusal 1's reasons a merge of them meets none but too many sections, and what its symbols
-- say. Excluded tables and the dynamic symbol table have no contents: first 0, count 0.
-- Assumes nothing.
use Rattle.std.specs.Prelude.{ℕ, zero, suc, ◌+◌, ◌-◌, ◌<◌, ◌≤◌, ◌≡◌, Bool, false, cond, ◌&&◌, List, [], ◌∷◌, eqb, ltb, length, get_or}
use Rattle.std.proofs.Common.{arith, add-zero, zero-add, not-suc-le-zero, le_of_suc-le-suc, sym, ◌∙◌}
use Rattle.std.proofs.Math.Path.{refl, ap}
use Rattle.std.proofs.Math.Bool.{true}
use borrow.Author.Tests.{eqb-true, le-ltb, ltb-true, ltb-false, lt-leb}
use Rattle.cells.specs.Proof.Split.{by-test}
use Rattle.byte_slices.specs.Proof.Ways.{apart}
use Rattle.byte_slices.specs.Bytes.{same}
use Rattle.gabi.specs.StringTable.{name_at}
use Rattle.elf_object.specs.Rows.{kind_at, flags_at, first_at, count_at}
use Rattle.elf_object.specs.Judge as Merge
use Rattle.elf_file.specs.declared.Header.{Header}
use Rattle.gabi.specs.File.{e_shoff, section_count, header_table, name_section}
use Rattle.elf_file.specs.File.{header_at}
use Rattle.elf_file.specs.Check.{is_object, headers_fit, excluded, entry_size, section_ok, table_ok, bad_table, file_refusal}
use Rattle.elf_file.specs.Rows.{entries_in, contents_in, entry_count, content_count, kinds, kind_of, eh_frame_hdr, named_kind, names_of, comdat_of, flags_of, first_row_of, count_of, header_row_of}
use Rattle.elf_laws.specs.Object.{headers_from, rows_of}
use Rattle.elf_laws.proofs.Rows.{header_row, entries-inside, contents-inside}

-- ---- 27: no table is past the end

no_less : (i k : ℕ) → i + suc k ≤ i → ⊥
no_less i k q = omega arith

all-ok : (ok : ℕ → Bool) (k i j : ℕ) → i + k ≤ Merge.first_bad ok i k → j < k → ok (i + j) ≡ true
unfolding Merge.first_bad
all-ok ok zero i j h g = absurd (not-suc-le-zero g)
all-ok ok (suc k) i zero h g = by-test (ok i) (λ t. ap ok (add-zero i) ∙ t) (λ t. absurd (no_less i k (rw t at h)))
all-ok ok (suc k) i (suc j) h g =
    by-test (ok i)
    (λ t.
    let q : i + suc k ≤ Merge.first_bad ok (i + 1) k = rw t at h in
    let e : i + suc j ≡ i + 1 + j = omega arith in
    ap ok e ∙ all-ok ok k (i + 1) j (omega arith) (le_of_suc-le-suc g))
    (λ t. absurd (no_less i k (rw t at h)))

no-26 : ◌≡◌ {A = ℕ} 26 0 → ⊥
no-26 e = omega arith

no-27 : ◌≡◌ {A = ℕ} 27 0 → ⊥
no-27 e = omega arith

pub tables-pass : (file : List ℕ) → (file_refusal file).number ≡ 0 → (j : ℕ) → j < section_count file → table_ok (length file) (header_table file) j ≡ true
unfolding file_refusal bad_table
tables-pass file h j g =
    let n = section_count file in
    let table = header_table file in
    by-test (is_object file)
    (λ a.
    by-test (headers_fit (length file) (e_shoff file) n)
    (λ b.
    by-test (ltb (bad_table (length file) table n) n) (λ d. absurd (no-27 (rw (a, b, d) at h)))
    (λ d.
    let q : n ≤ bad_table (length file) table n = ltb-false _ _ d in
    ap (table_ok (length file) table) (sym (zero-add j)) ∙ all-ok (table_ok (length file) table) n 0 j (omega (arith, q)) g))
    (λ b. absurd (no-27 (rw (a, b) at h))))
    (λ a. absurd (no-26 (rw a at h)))

-- ---- ranges

range-empty : (all : ℕ) → Merge.range_ok 0 0 all ≡ true
unfolding Merge.range_ok
range-empty all = simp (le-ltb all 0 (omega arith), le-ltb (all - 0) 0 (omega arith))

range-in : (first count all : ℕ) → first + count ≤ all → Merge.range_ok first count all ≡ true
unfolding Merge.range_ok
range-in first count all h = simp (le-ltb all first (omega arith), le-ltb (all - first) count (omega arith))

either : (b x : Bool) → x ≡ true → cond b true x ≡ true
either true x e = refl
either false x e = e

contents-empty : (k entries contents len : ℕ) → Merge.contents_ok k 0 0 entries contents len ≡ true
unfolding Merge.contents_ok
contents-empty k entries contents len =
    rw (range-empty entries, range-empty contents, range-empty len)
    (either (eqb k 3) _
    (either (eqb k 10) _ (either (eqb k 4) _ (either (eqb k 5) _ (either (eqb k 6) _ (either (eqb k 7) true refl))))))

pub typed : (names : List ℕ) (h : Header) (t : ℕ) → eqb h.kind t ≡ true → eqb t 1 ≡ false → named_kind names h ≡ kind_of t
unfolding named_kind
typed names h t a f =
    let e : h.kind ≡ t = eqb-true _ _ a in
    let b : eqb h.kind 1 ≡ false = ap (λ (k : ℕ). eqb k 1) e ∙ f in
    rw b (ap kind_of e)

module _ (len : ℕ) (h : Header) where
  strings-in : excluded h ≡ false → h.kind ≡ 3 → section_ok len h ≡ true → h.offset + h.size ≤ len
  unfolding section_ok entry_size
  strings-in x q g =
      let k : entry_size h.kind ≡ 1 = ap entry_size q in
      by-test (ltb len (h.offset + h.size)) (λ t. absurd (apart (rw (x, k, t) at g))) (λ t. ltb-false _ _ t)

  nothing-in : excluded h ≡ false → eqb h.kind 9 ≡ false → eqb h.kind 4 ≡ false → eqb h.kind 17 ≡ false → contents_in h ≡ 0
  unfolding contents_in
  nothing-in x a b c = rw (x, a, b, c)

  module _ (names : List ℕ) (e c entries contents : ℕ) where
    pub contents-right : section_ok len h ≡ true → e + entries_in h ≤ entries → c + contents_in h ≤ contents
        → Merge.contents_ok (named_kind names h) (first_row_of h e c) (count_of h) entries contents len ≡ true
    unfolding first_row_of count_of kind_of Merge.contents_ok
    contents-right g u v =
        by-test (excluded h) (λ x. rw x (contents-empty (named_kind names h) entries contents len))
        (λ x.
        by-test (eqb h.kind 2) (λ t. let k : named_kind names h ≡ 3 = typed names h 2 t refl in rw (x, t, k) (range-in e (entries_in h) entries u))
        (λ t2.
        by-test (eqb h.kind 3) (λ t. let k : named_kind names h ≡ 4 = typed names h 3 t refl in rw (x, t2, t, k) (range-in h.offset h.size len (strings-in x (eqb-true _ _ t) g)))
        (λ t3.
        by-test (eqb h.kind 9) (λ t. let k : named_kind names h ≡ 5 = typed names h 9 t refl in rw (x, t2, t3, t, k) (range-in c (contents_in h) contents v))
        (λ t9.
        by-test (eqb h.kind 4) (λ t. let k : named_kind names h ≡ 6 = typed names h 4 t refl in rw (x, t2, t3, t9, t, k) (range-in c (contents_in h) contents v))
        (λ t4.
        by-test (eqb h.kind 17) (λ t. let k : named_kind names h ≡ 7 = typed names h 17 t refl in rw (x, t2, t3, t9, t4, t, k) (range-in c (contents_in h) contents v))
        (λ t17. rw (x, t2, t3, t9, t4, t17, nothing-in x t9 t4 t17) (contents-empty (named_kind names h) entries contents len)))))))

-- ---- kinds and flags

under : List ℕ → Bool
under [] = true
under (x ∷ xs) = ltb x 15 && under xs

pub both : (a b : Bool) → (a && b) ≡ true → (a ≡ true) × (b ≡ true)
both true b e = (refl, e)
both false b e = absurd (apart e)

get-under : (l : List ℕ) (i : ℕ) → under l ≡ true → get_or l i 0 < 15
unfolding under
get-under [] i e = omega arith
get-under (x ∷ xs) zero e = ltb-true _ _ (both (ltb x 15) (under xs) e).0
get-under (x ∷ xs) (suc i) e = get-under xs i (both (ltb x 15) (under xs) e).1

kind-small : (t : ℕ) → kind_of t < 15
unfolding kind_of under
kind-small t =
    by-test (eqb t 0x6ffffff6) (λ a. rw a (omega arith))
    (λ a. by-test (ltb t 18) (λ b. rw (a, b) (get-under kinds t refl)) (λ b. rw (a, b) (omega arith)))

named_small : (names : List ℕ) (h : Header) → named_kind names h < 15
unfolding named_kind
named_small names h =
    by-test (eqb h.kind 1)
    (λ a.
    by-test (same (name_at names h.name) eh_frame_hdr) (λ b. rw (a, b) (omega arith)) (λ b. rw (a, b) (omega arith)))
    (λ a. rw a (kind-small h.kind))

comdat-small : (file : List ℕ) (h : Header) → comdat_of file h < 2
unfolding comdat_of
comdat-small file h =
    by-test (excluded h) (λ a. rw a (omega arith))
    (λ a. by-test (eqb h.kind 17) (λ b. rw (a, b) (omega arith)) (λ b. rw (a, b) (omega arith)))

flags-small : (file : List ℕ) (h : Header) → flags_of file h < 16
unfolding flags_of
flags-small file h = omega (arith, comdat-small file h)

-- ---- the rows of a file

right : (len : ℕ) (table : List ℕ) (j : ℕ) → table_ok len table j ≡ true → section_ok len (header_at table j) ≡ true
unfolding table_ok
right len table j t = t

module _ (file : List ℕ) (j : ℕ) where
  -- every header row is in range: `headers` and `entries` as a merge judges them
  pub file-in-range : (file_refusal file).number ≡ 0 → j < section_count file → j < 65280
      → Merge.header_ok (rows_of file).headers (entry_count (header_table file) 0 (section_count file)) (content_count (header_table file) 0 (section_count file))
      (length file)
      j
      ≡ true
  unfolding Merge.header_ok rows_of header_row_of
  file-in-range z g b =
      let n = section_count file in
      let table = header_table file in
      let names = names_of file table (name_section file) n in
      let h = header_at table j in
      let e = entry_count table 0 j in
      let c = content_count table 0 j in
      let hs = headers_from file names table 0 0 0 n in
      let k : kind_at hs j ≡ named_kind names h = header_row file names table n j 0 g (omega arith) in
      let f : flags_at hs j ≡ flags_of file h = header_row file names table n j 2 g (omega arith) in
      let p : first_at hs j ≡ first_row_of h e c = header_row file names table n j 5 g (omega arith) in
      let q : count_at hs j ≡ count_of h = header_row file names table n j 6 g (omega arith) in
      let ok : section_ok (length file) h ≡ true = right (length file) table j (tables-pass file z j g) in
      rw (lt-leb 65280 j b, k, f, p, q, lt-leb 15 (named_kind names h) (named_small names h), lt-leb 16 (flags_of file h) (flags-small file h))
      (contents-right (length file) h names e c (entry_count table 0 n) (content_count table 0 n) ok (entries-inside table n j g) (contents-inside table n j g))
