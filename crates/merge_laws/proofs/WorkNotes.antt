-- What the notes before the groups, and the groups, leave in the work rows.
-- Assumes nothing.
use Prim.Native.Nat.{ℕ, zero, suc, ◌+◌, ◌-◌, ◌*◌, ◌/◌, ◌<◌, ◌≤◌}
use native.Mathlib.Omega.{arith}
use Rattle.std.specs.Prelude.{◌≡◌, Bool, cond, ◌&&◌, ◌||◌, ◌≢◌, eqb, ltb, leb, get_or, set, length}
use Rattle.std.proofs.Math.Path.{refl, sym, ap, subst}
use Rattle.std.proofs.Common.{◌∙◌}
use Rattle.std.proofs.Math.Bool.{true, false}
use mathlib.Core.List.{List, [], ◌∷◌}
use Rattle.std.proofs.Math.ListN.{length-set, get_or-eq_default}
use Rattle.std.proofs.Math.Seq.{get_or-set_same, get_or-set_other}
use Rattle.std.proofs.lemmas.List.Edits.{sets}
use borrow.Author.Tests.{eqb-true, eqb-false, ltb-true, ltb-false, leb-true, leb-false, ne_eqb}
use Rattle.cells.specs.Proof.Split.{by-test}
use Rattle.cells.specs.Rows.{put_row}
use Rattle.cells.specs.Proof.Rows.{length-put_row, row_other}
use Rattle.symbol.specs.Codes.{successor}
use Rattle.elf_object.specs.Rows.{rows_in, field, info_at}
use Rattle.merge_sections.specs.Reserve.{note_of}
use Rattle.merge_sections.specs.Notes.{each_from, note_table_of, note_tables_of, clear_one_of, clear_all_of, is_table}
use Rattle.merge_build.specs.Relocations.{relocations_of}
use Rattle.elf_object.specs.Rows as Elf
use Rattle.symbol_laws.specs.ObjectWords.{loaded_as, rel, rela, info_of}
use Rattle.merge_laws.specs.MergeWords.{relocates, named_by}
use Rattle.merge_laws.proofs.WorkRows.{loaded-same, next-is}

-- ---- what holds between the elements

module _ (step : List ℕ → ℕ → List ℕ) (Holds : List ℕ → ℕ → Type 0) (m : ℕ) (stays : (w : List ℕ) (i : ℕ) → i < m → Holds w i → Holds (step w i) (i + 1)) where
  pub each_keeps : (n i : ℕ) (w : List ℕ) → i + n ≤ m → Holds w i → Holds (each_from step n i w) (i + n)
  unfolding each_from
  each_keeps zero i w l h = let e : i ≡ i + 0 = omega arith in subst (Holds w) e h
  each_keeps (suc n) i w l h =
      let e : i + 1 + n ≡ i + suc n = omega arith in
      subst (Holds (each_from step n (i + 1) (step w i))) e (each_keeps n (i + 1) (step w i) (omega arith) (stays w i (omega arith) h))

-- ---- the last relocation table

table_same : (headers : List ℕ) (t : ℕ) → is_table headers t ≡ loaded_as headers t rel || loaded_as headers t rela
unfolding is_table
table_same headers t =
    rw (loaded-same headers t 5, loaded-same headers t 6) (by-test (loaded_as headers t rel) (λ a. rw a) (λ a. rw a))

-- the number and 1 of the last of the first t sections that is a table of section m
abbrev pub last_to : List ℕ → ℕ → ℕ → ℕ
last_to headers m zero = 0
last_to headers m (suc t) = cond (relocates headers t m) (t + 1) (last_to headers m t)

-- after the tables below t; w is what the sections left
module _ (headers : List ℕ) (few : rows_in headers ≤ 65280) (w : List ℕ) (lent : rows_in headers ≤ length w / 8) where
  pub record Noted (v : List ℕ) (t : ℕ) : Type 0 where
    pub long : length v ≡ length w
    pub others : (m f : ℕ) → f < 8 → (f ≡ 2 → ⊥) → field v m f ≡ field w m f
    pub tables : (m : ℕ) → m < rows_in headers → field v m 2 ≡ last_to headers m t

  one-noted : (v : List ℕ) (t : ℕ) → t < rows_in headers → Noted v t → Noted (note_table_of headers v t) (suc t)
  unfolding note_table_of relocates
  one-noted v t h n =
      rw (table_same headers t)
      (by-test (leb (rows_in headers) (info_at headers t))
      (λ a.
      let past : (m : ℕ) → m < rows_in headers → info_of headers t ≢ m = λ m l e. omega (arith, leb-true (rows_in headers) (info_at headers t) a) in
      rw a
      (record {
        long = n.long;
        others = n.others;
        tables = λ m l. n.tables m l ∙ sym (not-here m (rw (ne_eqb _ _ (past m l)) (and-false (loaded_as headers t rel || loaded_as headers t rela))));
      }))
      (λ a.
      let inside : info_at headers t < rows_in headers = leb-false _ _ a in
      by-test (loaded_as headers t rel || loaded_as headers t rela)
      (λ b.
      rw (a, b)
      (record {
        long = length-set v (info_at headers t * 8 + 2) (successor t) ∙ n.long;
        others = λ m f q u. get_or-set_other v (info_at headers t * 8 + 2) (m * 8 + f) (successor t) 0 (λ z. u (omega arith)) ∙ n.others m f q u;
        tables =
            λ m l.
            by-test (eqb (info_of headers t) m)
            (λ c.
            let e : info_at headers t ≡ m = eqb-true _ _ c in
            ap (λ (x : ℕ). field (set v (info_at headers t * 8 + 2) (successor t)) x 2) (sym e)
            ∙ get_or-set_same v (info_at headers t * 8 + 2) (successor t) 0 (omega (arith, n.long)) ∙ next-is t (omega arith) ∙ sym (here m (rw (b, c))))
            (λ c.
            let u : info_at headers t ≢ m = eqb-false _ _ c in
            get_or-set_other v (info_at headers t * 8 + 2) (m * 8 + 2) (successor t) 0 (λ q. u (omega arith)) ∙ n.tables m l
            ∙ sym (not-here m (rw c (and-false (loaded_as headers t rel || loaded_as headers t rela)))));
      }))
      (λ b. rw (a, b) (record { long = n.long; others = n.others; tables = λ m l. n.tables m l ∙ sym (not-here m (rw b)) }))))
    where
      and-false : (b : Bool) → b && false ≡ false
      and-false true = refl
      and-false false = refl

      here : (m : ℕ) → relocates headers t m ≡ true → last_to headers m (suc t) ≡ t + 1
      here m e = rw e

      not-here : (m : ℕ) → relocates headers t m ≡ false → last_to headers m (suc t) ≡ last_to headers m t
      not-here m e = rw e

  pub all_noted : ((m : ℕ) → m < rows_in headers → field w m 2 ≡ 0) → Noted (note_tables_of headers w) (rows_in headers)
  unfolding note_tables_of
  all_noted none =
      let e : 0 + rows_in headers ≡ rows_in headers = omega arith in
      subst (Noted (each_from (note_table_of headers) (rows_in headers) 0 w)) e
      (each_keeps (note_table_of headers) Noted (rows_in headers) (λ v t l h. subst (Noted (note_table_of headers v t)) (let q : suc t ≡ t + 1 = omega arith in q) (one-noted v t l h))
      (rows_in headers) 0 w (omega arith) (record { long = refl; others = λ m f q u. refl; tables = none }))

-- what such a cell names
last-names : (headers contents : List ℕ) (m t : ℕ) → relocations_of headers contents (last_to headers m t) ≡ named_by headers contents m t
unfolding relocations_of named_by Elf.section_of
last-names headers contents m zero = refl
last-names headers contents m (suc t) =
    let e : t + 1 - 1 ≡ t = omega arith in
    by-test (relocates headers t m) (λ a. rw (a, ne_eqb (t + 1) 0 (λ q. omega arith), e)) (λ a. rw a (last-names headers contents m t))

-- ---- a row of zeros, part of which may lie past the end

abbrev zeros_of : ℕ → List ℕ
zeros_of zero = []
zeros_of (suc n) = 0 ∷ zeros_of n

set-zero : (l : List ℕ) (a : ℕ) → get_or (set l a 0) a 0 ≡ 0
set-zero l a =
    by-test (ltb a (length l)) (λ e. get_or-set_same l a 0 0 (ltb-true _ _ e))
    (λ e. let k : length l ≤ a = ltb-false _ _ e in get_or-eq_default (set l a 0) 0 {n = a} (omega (arith, length-set l a 0)))

zeros-before : (n : ℕ) (l : List ℕ) (a k : ℕ) → k < a → get_or (sets l a (zeros_of n)) k 0 ≡ get_or l k 0
zeros-before zero l a k h = refl
zeros-before (suc n) l a k h = zeros-before n (set l a 0) (suc a) k (omega arith) ∙ get_or-set_other l a k 0 0 (λ e. omega arith)

zeros_within : (n : ℕ) (l : List ℕ) (a m : ℕ) → m < n → get_or (sets l a (zeros_of n)) (a + m) 0 ≡ 0
zeros_within zero l a m h = absurd (omega arith)
zeros_within (suc n) l a zero h =
    let e : a + 0 ≡ a = omega arith in
    ap (λ (k : ℕ). get_or (sets (set l a 0) (suc a) (zeros_of n)) k 0) e ∙ zeros-before n (set l a 0) (suc a) a (omega arith) ∙ set-zero l a
zeros_within (suc n) l a (suc m) h =
    let e : a + suc m ≡ suc a + m = omega arith in
    ap (λ (k : ℕ). get_or (sets (set l a 0) (suc a) (zeros_of n)) k 0) e ∙ zeros_within n (set l a 0) (suc a) m (omega arith)

zero_row : (v : List ℕ) (s f : ℕ) → f < 8 → field (put_row v s (Elf.work_cells Elf.nothing)) s f ≡ 0
unfolding put_row
zero_row v s f l = zeros_within 8 v (s * 8) f l

-- ---- section numbers of symbols that the object doesn't have

module _ (rows : ℕ) (entries w : List ℕ) where
  pub record Cleared (v : List ℕ) (i : ℕ) : Type 0 where
    pub long : length v ≡ length w
    pub others : (m f : ℕ) → m < rows → f < 8 → field v m f ≡ field w m f
    pub none : (j f : ℕ) → j < i → f < 8 → rows ≤ field entries j 4 → field v (field entries j 4) f ≡ 0

  cleared-one : (v : List ℕ) (i : ℕ) → i < rows_in entries → Cleared v i → Cleared (clear_one_of rows entries v i) (i + 1)
  unfolding clear_one_of note_of
  cleared-one v i l h =
      let s = field entries i 4 in
      let zeros : List ℕ = Elf.work_cells Elf.nothing in
      by-test (leb rows s)
      (λ a.
      let p : rows ≤ s = leb-true _ _ a in
      rw a
      (record {
        long = length-put_row v s zeros ∙ h.long;
        others = λ m f q r. row_other v s zeros m f refl r (λ z. omega arith) ∙ h.others m f q r;
        none =
            λ j f q r k.
            by-test (eqb (field entries j 4) s) (λ b. let e : field entries j 4 ≡ s = eqb-true _ _ b in rw e (zero_row v s f r))
            (λ b.
            let u : field entries j 4 ≡ s → ⊥ = eqb-false _ _ b in
            row_other v s zeros (field entries j 4) f refl r u ∙ h.none j f (before j q u) r k);
      }))
      (λ a.
      let p : s < rows = leb-false _ _ a in
      rw a (record { long = h.long; others = h.others; none = λ j f q r k. h.none j f (before-row j q k p) r k }))
    where
      before : (j : ℕ) → j < i + 1 → (field entries j 4 ≡ field entries i 4 → ⊥) → j < i
      before j q u = by-test (eqb j i) (λ b. absurd (u (ap (λ (x : ℕ). field entries x 4) (eqb-true _ _ b)))) (λ b. let v : j ≡ i → ⊥ = eqb-false _ _ b in omega (arith, v))

      before-row : (j : ℕ) → j < i + 1 → rows ≤ field entries j 4 → field entries i 4 < rows → j < i
      before-row j q k p =
          by-test (eqb j i) (λ b. let e : field entries j 4 ≡ field entries i 4 = ap (λ (x : ℕ). field entries x 4) (eqb-true _ _ b) in absurd (omega arith))
          (λ b. let v : j ≡ i → ⊥ = eqb-false _ _ b in omega (arith, v))

  pub all-cleared : Cleared (clear_all_of rows entries w) (rows_in entries)
  unfolding clear_all_of
  all-cleared =
      let e : 0 + rows_in entries ≡ rows_in entries = omega arith in
      subst (Cleared (each_from (clear_one_of rows entries) (rows_in entries) 0 w)) e
      (each_keeps (clear_one_of rows entries) Cleared (rows_in entries) (λ v i l h. cleared-one v i l h) (rows_in entries) 0 w (omega arith)
      (record { long = refl; others = λ m f q r. refl; none = λ j f q. absurd (omega arith) }))

-- both together
module _ (headers entries : List ℕ) (few : rows_in headers ≤ 65280) (w : List ℕ) (room : rows_in headers ≤ length w / 8)
    (none : (m : ℕ) → m < rows_in headers → field w m 2 ≡ 0) where
  abbrev done : List ℕ
  done = clear_all_of (rows_in headers) entries (note_tables_of headers w)

  noted : Noted headers few w room (note_tables_of headers w) (rows_in headers)
  noted = all_noted headers few w room none

  cleared : Cleared (rows_in headers) entries (note_tables_of headers w) done (rows_in entries)
  cleared = all-cleared (rows_in headers) entries (note_tables_of headers w)

  pub done-long : length done ≡ length w
  done-long = cleared.long ∙ noted.long

  -- a section's conversion and marks stand, and its last table is noted
  pub done-cell : (m : ℕ) → m < rows_in headers → (f : ℕ) → f < 8 → f ≢ 2 → field done m f ≡ field w m f
  done-cell m low f h u = cleared.others m f low h ∙ noted.others m f h u

  pub done-names : (m : ℕ) → m < rows_in headers → (contents : List ℕ) → relocations_of headers contents (field done m 2) ≡ named_by headers contents m (rows_in headers)
  done-names m low contents =
      ap (relocations_of headers contents) (cleared.others m 2 low (omega arith) ∙ noted.tables m low) ∙ last-names headers contents m (rows_in headers)

  -- a number that an entry has, and that is no section of the object: no conversion, no mark
  pub done-past : (i m f : ℕ) → i < rows_in entries → field entries i 4 ≡ m → rows_in headers ≤ m → f < 8 → field done m f ≡ 0
  done-past i m f h e p s = ap (λ (x : ℕ). field done x f) (sym e) ∙ cleared.none i f h s (omega (arith, e, p))
