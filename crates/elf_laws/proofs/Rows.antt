-- Row i of the headers is that of header i; what the tables before it need stands before its contents.
-- Assumes nothing.
use Prim.Native.Nat.{ℕ, zero, suc, ◌+◌, ◌*◌, ◌<◌, ◌≤◌}
use native.Mathlib.Omega.{arith}
use Rattle.std.proofs.Math.Nat.{add-zero}
use Rattle.std.proofs.Common.{zero-add, not-suc-le-zero, le_of_suc-le-suc, ◌∙◌, get_or-take}
use Rattle.std.specs.Prelude.{◌≡◌, List, ◌++◌}
use Rattle.std.proofs.Math.Path.{sym, ap}
use Rattle.std.proofs.Math.ListN.{length, get_or}
use Rattle.std.proofs.Math.Seq.{take-append_seam, get_or-append-add}
use Rattle.elf_file.specs.File.{header_at}
use Rattle.elf_file.specs.Rows.{entries_in, contents_in, entry_count, content_count, header_row_of}
use Rattle.elf_laws.specs.Object.{headers_from}
use Rattle.elf_laws.proofs.Written.{header-eight}

front : (xs ys : List ℕ) (i : ℕ) → i < length xs → get_or (xs ++ ys) i 0 ≡ get_or xs i 0
front xs ys i h = sym (get_or-take (length xs) (xs ++ ys) i 0 h) ∙ ap (λ (l : List ℕ). get_or l i 0) (take-append_seam xs ys)

module _ (file names table : List ℕ) where
  -- field f of row j
  abbrev row_at : ℕ → ℕ → ℕ → ℕ → ℕ
  row_at i e c f = get_or (header_row_of file names (header_at table i) e c) f 0

  row_in : (k i e c j f : ℕ) → j < k → f < 8
      → get_or (headers_from file names table i e c k) (j * 8 + f) 0 ≡ row_at (i + j) (e + entry_count table i j) (c + content_count table i j) f
  unfolding headers_from entry_count content_count
  row_in zero i e c j f h g = absurd (not-suc-le-zero h)
  row_in (suc k) i e c zero f h g =
      let hd = header_at table i in
      let r = header_row_of file names hd e c in
      let z : 0 * 8 + f ≡ f = omega arith in
      let long : f < length r = omega (arith, header-eight file names hd e c) in
      ap (λ (p : ℕ). get_or (headers_from file names table i e c (suc k)) p 0) z
      ∙ front r (headers_from file names table (i + 1) (e + entries_in hd) (c + contents_in hd) k) f long
      ∙ sym (rw (add-zero i, add-zero e, add-zero c))
  row_in (suc k) i e c (suc j) f h g =
      let hd = header_at table i in
      let r = header_row_of file names hd e c in
      let rest = headers_from file names table (i + 1) (e + entries_in hd) (c + contents_in hd) k in
      let p : suc j * 8 + f ≡ length r + (j * 8 + f) = omega (arith, header-eight file names hd e c) in
      let a : i + 1 + j ≡ i + suc j = omega arith in
      let b : e + entries_in hd + entry_count table (i + 1) j ≡ e + (entries_in hd + entry_count table (i + 1) j) = omega arith in
      let d : c + contents_in hd + content_count table (i + 1) j ≡ c + (contents_in hd + content_count table (i + 1) j) = omega arith in
      ap (λ (q : ℕ). get_or (r ++ rest) q 0) p ∙ get_or-append-add r rest (j * 8 + f) 0
      ∙ row_in k (i + 1) (e + entries_in hd) (c + contents_in hd) j f (le_of_suc-le-suc h) g
      ∙ rw (a, b, d)

  pub header_row : (n j f : ℕ) → j < n → f < 8
      → get_or (headers_from file names table 0 0 0 n) (j * 8 + f) 0 ≡ row_at j (entry_count table 0 j) (content_count table 0 j) f
  header_row n j f h g = row_in n 0 0 0 j f h g ∙ rw (zero-add j, zero-add (entry_count table 0 j), zero-add (content_count table 0 j))

-- what stands before table j, and table j, is no more than all
entries_below : (table : List ℕ) (n i j : ℕ) → j < n → entry_count table i j + entries_in (header_at table (i + j)) ≤ entry_count table i n
unfolding entry_count
entries_below table zero i j h = absurd (not-suc-le-zero h)
entries_below table (suc n) i zero h = let z : header_at table (i + 0) ≡ header_at table i = ap (header_at table) (add-zero i) in omega (arith, ap entries_in z)
entries_below table (suc n) i (suc j) h =
    let a : i + 1 + j ≡ i + suc j = omega arith in
    omega (arith, entries_below table n (i + 1) j (le_of_suc-le-suc h), ap (λ (k : ℕ). entries_in (header_at table k)) a)

contents-below : (table : List ℕ) (n i j : ℕ) → j < n → content_count table i j + contents_in (header_at table (i + j)) ≤ content_count table i n
unfolding content_count
contents-below table zero i j h = absurd (not-suc-le-zero h)
contents-below table (suc n) i zero h = let z : header_at table (i + 0) ≡ header_at table i = ap (header_at table) (add-zero i) in omega (arith, ap contents_in z)
contents-below table (suc n) i (suc j) h =
    let a : i + 1 + j ≡ i + suc j = omega arith in
    omega (arith, contents-below table n (i + 1) j (le_of_suc-le-suc h), ap (λ (k : ℕ). contents_in (header_at table k)) a)

module _ (table : List ℕ) (n j : ℕ) where
  pub entries-inside : j < n → entry_count table 0 j + entries_in (header_at table j) ≤ entry_count table 0 n
  entries-inside h = omega (arith, entries_below table n 0 j h, ap (λ (k : ℕ). entries_in (header_at table k)) (zero-add j))

  pub contents-inside : j < n → content_count table 0 j + contents_in (header_at table j) ≤ content_count table 0 n
  contents-inside h = omega (arith, contents-below table n 0 j h, ap (λ (k : ℕ). contents_in (header_at table k)) (zero-add j))
