-- What a file is counted to need is what its read takes, and what marks its merge makes.
-- Assumes nothing.
use Rattle.std.specs.Prelude.{ℕ, zero, suc, ◌+◌, ◌*◌, ◌-◌, ◌/◌, ◌<◌, ◌≤◌, ◌≡◌, ◌⊎◌, true, false, min, max, List, eqb, ltb, leb, Ok, Err}
use native.Mathlib.Omega.{arith}
use Rattle.std.proofs.Common.{sym, ◌∙◌, inl, inr}
use Rattle.std.proofs.Math.Path.{ap}
use Rattle.std.proofs.Math.ListN.{length}
use borrow.Author.Tests.{eq-eqb, ne_eqb, eqb-true, lt-ltb, ltb-true, leb-true, leb-false}
use Rattle.cells.specs.Proof.Split.{by-test}
use Rattle.link.specs.Judge.{refused}
use Rattle.link.specs.declared.cause.Refusal.{Refusal}
use Rattle.gabi.specs.File.{section_count, header_table, word_at, member_at}
use Rattle.elf_file.specs.declared.counts.Counts.{Counts}
use Rattle.elf_file.specs.declared.Header.{Header}
use Rattle.elf_file.specs.File.{header_at}
use Rattle.elf_file.specs.Check.{excluded, file_refusal}
use Rattle.elf_file.specs.Read.{bytes_of}
use Rattle.elf_file.specs.Read.{read_as}
use Rattle.elf_file.specs.Contract.{answer_of}
use Rattle.byte_slices.specs.Proof.Ways.{apart}
use Rattle.elf_file.specs.Counts.{listed_in, rows_to, rows_to_members, rows_to_listed, counts_of, cells_for, most_cells, within, counted_of}
use Rattle.elf_file.specs.Proof.CountWays.{contents-are}
use Rattle.elf_laws.specs.Object.{cells_of}
use Rattle.elf_laws.specs.Counted.{taken, IsListed}

-- ---- the answers

module _ (file : List ℕ) where
  needed : cells_for (counts_of file) ≡ cells_of file
  unfolding cells_of
  needed = omega (arith, contents-are (header_table file) 0 (section_count file))

  -- a file that is counted isn't refused, and has these counts
  pub counted-fine : (c : Counts) → counted_of file ≡ Ok c → ((file_refusal file).number ≡ 0) × (c ≡ counts_of file)
  unfolding counted_of within
  counted-fine c q =
      by-test (eqb (file_refusal file).number 0)
      (λ z.
      by-test (leb (cells_for (counts_of file)) (most_cells (length file)))
      (λ t. let e : Ok (counts_of file) ≡ Ok c = rw (z, t) at q in (eqb-true _ _ z, cc))
      (λ t. let e : Err (refused 2 0) ≡ Ok c = rw (z, t) at q in cc))
      (λ z. let e : Err (file_refusal file) ≡ Ok c = rw z at q in cc)

  -- its cells are those of a read
  pub counted-cells : (c : Counts) → counted_of file ≡ Ok c → taken c ≡ cells_of file
  counted-cells c q = let (z, e) = counted-fine c q in rw e (omega (arith, needed))

  -- and they are within the bound
  pub counted-bounded : (c : Counts) → counted_of file ≡ Ok c → taken c ≤ max (length file) 0x1000000
  unfolding counted_of within
  counted-bounded c q =
      let (z, e) = counted-fine c q in
      by-test (leb (cells_for (counts_of file)) (most_cells (length file)))
      (λ t. rw e (omega (arith, leb-true _ _ t)))
      (λ t. let e : Err (refused 2 0) ≡ Ok c = rw (eq-eqb _ _ z, t) at q in cc)

  -- or it is refused as a read of it, or needs more than the bound
  pub uncounted : (x : Refusal) → counted_of file ≡ Err x
      → (((file_refusal file).number ≡ 0 → ⊥) × (x ≡ file_refusal file))
      ⊎ (((file_refusal file).number ≡ 0) × (max (length file) 0x1000000 < cells_of file) × (x ≡ refused 2 0))
  unfolding counted_of within
  uncounted x q =
      by-test (eqb (file_refusal file).number 0)
      (λ z.
      by-test (leb (cells_for (counts_of file)) (most_cells (length file)))
      (λ t. let e : Ok (counts_of file) ≡ Err x = rw (z, t) at q in cc)
      (λ t. let e : Err (refused 2 0) ≡ Err x = rw (z, t) at q in inr (eqb-true _ _ z, omega (arith, needed, leb-false _ _ t), cc)))
      (λ z. let e : Err (file_refusal file) ≡ Err x = rw z at q in inl (λ k. absurd (apart (sym z ∙ eq-eqb _ _ k)), cc))

  pub refusal-answered : ((file_refusal file).number ≡ 0 → ⊥)
      → answer_of (read_as (file_refusal file).number (file_refusal file).place 0 0 0 0) ≡ Err (file_refusal file)
  refusal-answered n = simp (ne_eqb _ _ n)

-- ---- the work rows

module _ (group : List ℕ) where
  members-above : (m j i : ℕ) → j ≤ i → i < j + m → rows_to (member_at group i) ≤ rows_to_members group j m
  unfolding rows_to_members
  members-above zero j i a b = omega arith
  members-above (suc m) j i a b =
      by-test (leb (j + 1) i)
      (λ t. omega (arith, members-above m (j + 1) i (leb-true _ _ t) (omega arith)))
      (λ t. let l = leb-false _ _ t in let e : i ≡ j = omega (arith, l) in rw e (omega arith))

  members-below : (b m j : ℕ) → ((i : ℕ) → j ≤ i → i < j + m → rows_to (member_at group i) ≤ b) → rows_to_members group j m ≤ b
  unfolding rows_to_members
  members-below b zero j f = omega arith
  members-below b (suc m) j f =
      omega (arith, f j (omega arith) (omega arith), members-below b m (j + 1) (λ i p q. f i (omega (arith, p)) (omega (arith, q))))

module _ (file table : List ℕ) where
  abbrev rows_in : ℕ → ℕ
  rows_in i = rows_to_members (bytes_of file (header_at table i)) 0 (listed_in (header_at table i))

  listed-above : (m j i : ℕ) → j ≤ i → i < j + m → rows_in i ≤ rows_to_listed file table j m
  unfolding rows_to_listed
  listed-above zero j i a b = omega arith
  listed-above (suc m) j i a b =
      by-test (leb (j + 1) i)
      (λ t. omega (arith, listed-above m (j + 1) i (leb-true _ _ t) (omega arith)))
      (λ t. let l = leb-false _ _ t in let e : i ≡ j = omega (arith, l) in rw e (omega arith))

  listed-below : (b m j : ℕ) → ((i : ℕ) → j ≤ i → i < j + m → rows_in i ≤ b) → rows_to_listed file table j m ≤ b
  unfolding rows_to_listed
  listed-below b zero j f = omega arith
  listed-below b (suc m) j f =
      omega (arith, f j (omega arith) (omega arith), listed-below b m (j + 1) (λ i p q. f i (omega (arith, p)) (omega (arith, q))))

-- the words of a loaded group behind its flags
group-listed : (h : Header) → h.kind ≡ 17 → excluded h ≡ false → listed_in h ≡ h.size / 4 - 1
unfolding listed_in
group-listed h k x = simp (x, k)

none-listed : (h : Header) → excluded h ≡ true → (j : ℕ) → j < 0 + listed_in h → ⊥
unfolding listed_in
none-listed h x j q = let e : j < 0 + 0 = rw x at q in omega (arith, e)

no-group : (h : Header) → eqb h.kind 17 ≡ false → (j : ℕ) → j < 0 + listed_in h → ⊥
unfolding listed_in
no-group h k j q = by-test (excluded h) (λ x. none-listed h x j q) (λ x. let e : j < 0 + 0 = rw (x, k) at q in omega (arith, e))

rows-to-section : (s : ℕ) → s < 65280 → rows_to s ≡ s + 1
unfolding rows_to
rows-to-section s l = simp (lt-ltb _ _ l)

module _ (file : List ℕ) (c : Counts) (q : counted_of file ≡ Ok c) where
  pub sections-marked : (s : ℕ) → s < section_count file → s < 65280 → s < c.work_rows
  sections-marked s l m = let (z, e) = counted-fine file c q in rw e (omega (arith, l, m))

  pub listed-marked : (s : ℕ) → IsListed file s → s < 65280 → s < c.work_rows
  unfolding member_at
  listed-marked s x m =
      let (z, e) = counted-fine file c q in
      let h = header_at (header_table file) x.section in
      let g = bytes_of file h in
      let n = group-listed h x.is_group x.is_loaded in
      let a = listed-above file (header_table file) (section_count file) 0 x.section (omega arith) (omega (arith, x.there)) in
      let b : rows_to (member_at g (x.place - 1)) ≤ rows_to_members g 0 (listed_in h) =
      members-above g (listed_in h) 0 (x.place - 1) (omega arith) (omega (arith, n, x.behind, x.inside)) in
      let p : (x.place - 1) * 4 + 4 ≡ x.place * 4 = omega (arith, x.behind) in
      let w : member_at g (x.place - 1) ≡ s = ap (word_at g) p ∙ sym x.is in
      let r : rows_to (member_at g (x.place - 1)) ≡ s + 1 = ap rows_to w ∙ rows-to-section s m in
      rw e (omega (arith, a, b, r))

-- ---- no more of them

rows_to-below : (s b : ℕ) → (s < 65280 → s < b) → rows_to s ≤ b
unfolding rows_to
rows_to-below s b f =
    by-test (ltb s 65280)
    (λ t. let l = f (ltb-true _ _ t) in simp t (omega (arith, l)))
    (λ t. simp t (omega arith))

module _ (file : List ℕ) (b : ℕ) (f : (s : ℕ) → IsListed file s → s < 65280 → s < b) where
  section-below : (i : ℕ) → i < section_count file → rows_to_members (bytes_of file (header_at (header_table file) i)) 0 (listed_in (header_at (header_table file) i)) ≤ b
  unfolding listed_in member_at
  section-below i l =
      let h = header_at (header_table file) i in
      let g = bytes_of file h in
      by-test (excluded h)
      (λ x. members-below g b (listed_in h) 0 (λ j p q. absurd (none-listed h x j q)))
      (λ x.
      by-test (eqb h.kind 17)
      (λ k.
      let e = eqb-true _ _ k in
      let n = group-listed h e x in
      members-below g b (listed_in h) 0
      (λ j p q.
      let a : (j + 1) * 4 ≡ j * 4 + 4 = omega arith in
      rows_to-below (member_at g j) b
      (f (member_at g j)
      (record {
        section = i;
        place = j + 1;
        there = l;
        is_group = e;
        is_loaded = x;
        behind = omega arith;
        inside = omega (arith, q, n);
        is = ap (word_at g) (sym a);
      }))))
      (λ k. members-below g b (listed_in h) 0 (λ j p q. absurd (no-group h k j q))))

sections-below : (n b : ℕ) → ((s : ℕ) → s < n → s < 65280 → s < b) → min n 65280 ≤ b
sections-below n b f =
    by-test (leb (min n 65280) b)
    (λ t. leb-true _ _ t)
    (λ t. let l = leb-false _ _ t in let a = f b (omega (arith, l)) (omega (arith, l)) in omega (arith, a))

pub marks-least : (file : List ℕ) (c : Counts) → counted_of file ≡ Ok c → (b : ℕ) → ((s : ℕ) → s < section_count file → s < 65280 → s < b)
    → ((s : ℕ) → IsListed file s → s < 65280 → s < b) → c.work_rows ≤ b
marks-least file c q b f g =
    let (z, e) = counted-fine file c q in
    let l = listed-below file (header_table file) b (section_count file) 0 (λ i p t. section-below file b g i (omega (arith, t))) in
    let n = sections-below (section_count file) b f in
    rw e (omega (arith, l, n))
