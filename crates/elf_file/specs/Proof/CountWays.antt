-- The ways through the loops that count what groups list.
-- Assumes nothing.
use Rattle.std.specs.Prelude.{◌≡◌, ℕ, zero, suc, ◌+◌, ◌*◌, ◌-◌, ◌<◌, ◌≤◌, min, max, eqb, leb, List, Some, None, Ok, Err}
use native.Mathlib.Omega.{arith}
use Rattle.std.proofs.Common.{refl, ap, sym, ◌∙◌, Fits}
use borrow.Author.Tests.{eqb-true, le-leb, lt-leb, leb-false}
use Rattle.std.proofs.Math.Nat.{sub-zero}
use Rattle.std.specs.Int.{w64}
use Rattle.cells.specs.Proof.Split.{by-test}
use Rattle.byte_slices.specs.Bytes.{part}
use Rattle.gabi.specs.File.{section_count, header_table, member_at, sht_rel, sht_rela}
use Rattle.elf_object.specs.Proof.Ways.{one_less}
use Rattle.elf_file.specs.declared.Header.{Header}
use Rattle.elf_file.specs.File.{header_at}
use Rattle.elf_file.specs.Check.{excluded}
use Rattle.elf_file.specs.declared.rows.Room.{Room}
use Rattle.elf_file.specs.declared.counts.Counts.{Counts}
use Rattle.link.specs.Judge.{refused}
use Rattle.elf_file.specs.Proof.LoopWays.{fits-entries, fits-cells}
use Rattle.elf_file.specs.Rows.{contents_in, entry_count, content_count, room_as, room_of}
use Rattle.elf_file.specs.Counts.{relocations_in, listed_in, relocation_count, listed_count, rows_to, rows_to_members, rows_to_listed, counts_as, counts_in, counts_of, cells_for, within}

-- ---- a group's members

module _ (group : List ℕ) (n : ℕ) where
  pub members-start : rows_to_members group 0 n ≡ max 0 (rows_to_members group 0 (n - 0))
  members-start = rw (sub-zero n) (omega arith)

  module _ (w rows j : ℕ) where
    pub members-on : (m x y : ℕ) → w ≡ max rows (rows_to_members group j (n - j)) → j < n → m ≡ member_at group j → x ≡ rows_to m → y ≡ max rows x
        → w ≡ max y (rows_to_members group (j + 1) (n - (j + 1)))
    unfolding rows_to_members
    members-on m x y q l p e u = q ∙ rw (one_less n j l) (rw (u, e, p) (omega arith))

    pub members-end : w ≡ max rows (rows_to_members group j (n - j)) → n ≤ j → rows ≡ w
    unfolding rows_to_members
    members-end q l = let z : n - j ≡ 0 = omega arith in omega (arith, q, ap (rows_to_members group j) z)

-- ---- contents are relocations and what groups list

module _ (h : Header) where
  pub contents-split : contents_in h ≡ relocations_in h + listed_in h
  unfolding contents_in relocations_in listed_in
  contents-split =
      by-test (excluded h)
      (λ t. simp t)
      (λ t.
      by-test (eqb h.kind sht_rel)
      (λ r. let e : h.kind ≡ 9 = eqb-true _ _ r in simp (t, e) (omega arith))
      (λ r.
      by-test (eqb h.kind sht_rela)
      (λ a. let e : h.kind ≡ 4 = eqb-true _ _ a in simp (t, e) (omega arith))
      (λ a. simp (t, r, a) (omega arith))))

pub contents-are : (table : List ℕ) (i k : ℕ) → content_count table i k ≡ relocation_count table i k + listed_count table i k
unfolding content_count relocation_count listed_count
contents-are table i zero = refl
contents-are table i (suc k) = omega (arith, contents-split (header_at table i), contents-are table (i + 1) k)

-- ---- the groups among n sections

module _ (file table : List ℕ) (n : ℕ) where
  pub listed-start : 0 + listed_count table 0 (n - 0) ≡ listed_count table 0 n
  listed-start = rw (sub-zero n) (omega arith)

  pub listed_rows-start : rows_to_listed file table 0 n ≡ max 0 (rows_to_listed file table 0 (n - 0))
  listed_rows-start = rw (sub-zero n) (omega arith)

  pub listed-few : listed_count table 0 n ≤ content_count table 0 n
  listed-few = omega (arith, contents-are table 0 n)

  module _ (i count x : ℕ) (h : Header) where
    listed-step : i < n → h ≡ header_at table i → x ≡ listed_in h → listed_count table i (n - i) ≡ x + listed_count table (i + 1) (n - (i + 1))
    unfolding listed_count
    listed-step l q e = rw (one_less n i l) (rw (e, q) refl)

    pub listed-fits : count + listed_count table i (n - i) ≡ listed_count table 0 n → i < n → h ≡ header_at table i → x ≡ listed_in h
        → content_count table 0 n ≤ 0xffffffffffffffff → Fits w64 (count + x)
    listed-fits k l q e m = omega (arith, k, listed-step l q e, listed-few, m)

    pub listed-on : count + listed_count table i (n - i) ≡ listed_count table 0 n → i < n → h ≡ header_at table i → x ≡ listed_in h
        → count + x + listed_count table (i + 1) (n - (i + 1)) ≡ listed_count table 0 n
    listed-on k l q e = omega (arith, k, listed-step l q e)

    pub listed_rows-on : (w rows y z : ℕ) (b : List ℕ) → w ≡ max rows (rows_to_listed file table i (n - i)) → i < n → h ≡ header_at table i → x ≡ listed_in h
        → b ≡ part file h.offset h.size → y ≡ rows_to_members b 0 x → z ≡ max rows y → w ≡ max z (rows_to_listed file table (i + 1) (n - (i + 1)))
    unfolding rows_to_listed
    listed_rows-on w rows y z b k l q e p m u = k ∙ rw (one_less n i l) (rw (u, m, p, e, q) (omega arith))

  module _ (i : ℕ) where
    none : n ≤ i → n - i ≡ 0
    none l = omega arith

    pub listed-end : (count : ℕ) → count + listed_count table i (n - i) ≡ listed_count table 0 n → n ≤ i → count ≡ listed_count table 0 n
    unfolding listed_count
    listed-end count k l = omega (arith, k, ap (listed_count table i) (none l))

    pub listed_few-end : (count : ℕ) → count + listed_count table i (n - i) ≡ listed_count table 0 n → n ≤ i → count ≤ content_count table 0 n
    listed_few-end count k l = omega (arith, listed-end count k l, listed-few)

    pub listed_rows-end : (w rows : ℕ) → w ≡ max rows (rows_to_listed file table i (n - i)) → n ≤ i → rows ≡ w
    unfolding rows_to_listed
    listed_rows-end w rows k l = omega (arith, k, ap (rows_to_listed file table i) (none l))

-- ---- all of a file

module _ (file table : List ℕ) (cells n : ℕ) where
  needed : cells_for (counts_in file table n) ≡ n * 8 + entry_count table 0 n * 8 + content_count table 0 n
  needed = omega (arith, contents-are table 0 n)

  module _ (r : Room) (q : Some r ≡ room_of cells table n) where
    pub room-held : n * 8 + entry_count table 0 n * 8 + content_count table 0 n ≤ cells
    room-held = omega (arith, fits-entries cells table n r q, fits-cells cells table n r q)

    pub contents-held : Fits w64 cells → content_count table 0 n ≤ 0xffffffffffffffff
    contents-held m = omega (arith, room-held, m)

    pub counts-held : (c : Counts) → c ≡ counts_in file table n → table ≡ header_table file → n ≡ section_count file → Ok c ≡ within cells (counts_of file)
    unfolding within
    counts-held c e t k = rw (← t, ← k) (sym (simp (le-leb (cells_for (counts_in file table n)) cells (omega (arith, needed, room-held)), ← e)))

  pub counts-past : None ≡ room_of cells table n → table ≡ header_table file → n ≡ section_count file → Err (refused 2 0) ≡ within cells (counts_of file)
  unfolding room_of within
  counts-past q t k =
      rw (← t, ← k)
      (by-test (leb (n * 8 + entry_count table 0 n * 8 + content_count table 0 n) cells)
      (λ t. let e : None ≡ Some (room_as (entry_count table 0 n) (content_count table 0 n)) = rw t at q in cc)
      (λ t. sym (simp (lt-leb (cells_for (counts_in file table n)) cells (omega (arith, needed, leb-false _ _ t))))))

-- the counts with the room that was found
pub counts-made : (file table : List ℕ) (n count rows few work : ℕ) (r : Room) → r.entries ≡ entry_count table 0 n → r.contents ≡ content_count table 0 n
    → count ≡ listed_count table 0 n → rows ≡ rows_to_listed file table 0 n → few ≡ min n 0xff00 → work ≡ max few rows
    → counts_as n r.entries (r.contents - count) count work ≡ counts_in file table n
counts-made file table n count rows few work r e c a l m w =
    let x : r.contents - count ≡ relocation_count table 0 n = omega (arith, a, c, contents-are table 0 n) in rw (x, e, w, m, l, a) refl
