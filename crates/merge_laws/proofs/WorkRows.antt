-- What the work row of a section holds, said of the object: its row's id, the last relocation table that applies to it; and which symbol table is loaded.
-- Assumes nothing.
use Rattle.std.specs.Prelude.{ℕ, zero, suc, ◌+◌, ◌*◌, ◌/◌, ◌<◌, ◌≤◌, cond, List, ◌≢◌, eqb, leb, get_or, length}
use Rattle.std.proofs.Common.{arith, ◌∙◌, subst}
use Rattle.std.proofs.Math.Path.{◌≡◌, refl, sym, ap}
use Rattle.std.proofs.Math.Bool.{true, false}
use borrow.Author.Tests.{eqb-true, eqb-false, leb-true, leb-false, eq-eqb, lt-ltb, le-ltb}
use Rattle.cells.specs.Proof.Split.{by-test}
use Rattle.cells.specs.Proof.Rows.{length-put_row, row_same, row_other}
use Rattle.symbol.specs.Codes.{successor}
use Rattle.sections.specs.Rows as Sections
use Rattle.elf_object.specs.Rows as Elf
use Rattle.elf_object.specs.Rows.{rows_in, kind_at, is_loaded}
use Rattle.merge_sections.specs.Reserve.{State, kind_class, class_of, reserve_number, conversion_of, note_of, take_row_of, reserve_class_of, reserve_one_of, reserve_from, reserve_all_of, table_after}
use Rattle.symbol_laws.specs.ObjectWords.{loaded_as, is_excluded, symbol_table}
use Rattle.merge_laws.specs.MergeWords.{is_rowed, rowed_below}
use Rattle.merge_laws.proofs.Placed.{link_in}

-- ---- the words and the tests

pub loaded-same : (headers : List ℕ) (n kind : ℕ) → is_loaded headers n kind ≡ loaded_as headers n kind
unfolding is_loaded Elf.is_excluded loaded_as
loaded-same headers n kind =
    by-test (leb (rows_in headers) n) (λ a. rw (a, le-ltb n (rows_in headers) (leb-true _ _ a)))
    (λ a.
    rw (a, lt-ltb n (rows_in headers) (leb-false _ _ a))
    (by-test (is_excluded headers n) (λ b. by-test (eqb (kind_at headers n) kind) (λ c. rw (b, c)) (λ c. rw (b, c)))
    (λ b. by-test (eqb (kind_at headers n) kind) (λ c. rw (b, c)) (λ c. rw (b, c)))))

module _ (headers : List ℕ) (n : ℕ) (low : n < rows_in headers) where
  abbrev k : ℕ
  k = kind_at headers n

  pub class-rowed : eqb (class_of headers n) 2 ≡ is_rowed headers n
  unfolding class_of kind_class Elf.is_excluded is_rowed loaded_as
  class-rowed =
      rw (lt-ltb n (rows_in headers) low)
      (by-test (is_excluded headers n)
      (λ b. by-test (eqb k 1) (λ c. rw (b, c) (by-test (eqb k 2) (λ d. rw d) (λ d. rw d))) (λ c. rw (b, c) (by-test (eqb k 2) (λ d. rw d) (λ d. rw d))))
      (λ b.
      by-test (eqb k 1) (λ c. rw (b, c))
      (λ c. rw (b, c) (by-test (eqb k 2) (λ d. rw d)
      (λ d.
      rw d
      (by-test (eqb k 3) (λ e. rw e)
      (λ e. rw e (by-test (eqb k 10) (λ f. rw f) (λ f. rw f (by-test (eqb k 11) (λ g. rw g) (λ g. rw g (by-test (eqb k 12) (λ h. rw h) (λ h. rw h (by-test (eqb k 13) (λ i. rw i) (λ i. rw i)))))))))))))))

  pub class-table : eqb (class_of headers n) 3 ≡ loaded_as headers n symbol_table
  unfolding class_of kind_class Elf.is_excluded loaded_as
  class-table =
      rw (lt-ltb n (rows_in headers) low)
      (by-test (is_excluded headers n)
      (λ b. rw b (by-test (eqb k 3) (λ d. rw d) (λ d. rw d)))
      (λ b.
      by-test (eqb k 1) (λ c. let e : k ≡ 1 = eqb-true _ _ c in rw (b, e))
      (λ c.
      by-test (eqb k 2) (λ d. let e : k ≡ 2 = eqb-true _ _ d in rw (b, e))
      (λ d.
      rw (b, c, d)
      (by-test (eqb k 3) (λ e. rw e)
      (λ e. rw e (by-test (eqb k 10) (λ f. rw f) (λ f. rw f (by-test (eqb k 11) (λ g. rw g) (λ g. rw g (by-test (eqb k 12) (λ h. rw h) (λ h. rw h (by-test (eqb k 13) (λ i. rw i) (λ i. rw i))))))))))))))

-- ---- sections reserved

pub next-is : (n : ℕ) → n < 65535 → successor n ≡ n + 1
unfolding successor
next-is n h = rw (lt-ltb n 0xffffffffffffffff (omega arith))

-- the number and 1 of the last loaded symbol table among the first n sections
abbrev pub table_to : List ℕ → ℕ → ℕ
table_to headers zero = 0
table_to headers (suc n) = cond (loaded_as headers n symbol_table) (n + 1) (table_to headers n)

-- before the n-th section
pub record NotedTo (headers : List ℕ) (before n : ℕ) (s : State) : Type 0 where
  pub room : rows_in headers ≤ length s.work / 8
  pub counted : (link_in s).sections ≡ before + rowed_below headers n
  pub cells : (m : ℕ) → m < n → Elf.conversion_at s.work m ≡ conversion_of (class_of headers m) (before + rowed_below headers m)
  pub clean : (m f : ℕ) → m < n → 1 ≤ f → f < 8 → get_or s.work (m * 8 + f) 0 ≡ 0
  pub table : s.reserved.table ≡ table_to headers n

module _ (headers : List ℕ) (before : ℕ) (few : rows_in headers ≤ 65280) (s : State) (n : ℕ) (h : NotedTo headers before n s) (low : n < rows_in headers) where
  abbrev class : ℕ
  class = class_of headers n

  abbrev here : ℕ
  here = (link_in s).sections

  abbrev row : List ℕ
  row = Elf.work_cells (conversion_of class here)

  abbrev noted : List ℕ
  noted = note_of s.work n (conversion_of class here)

  noted-room : rows_in headers ≤ length noted / 8
  unfolding note_of
  noted-room = omega (arith, length-put_row s.work n row, h.room)

  noted-cells : (m : ℕ) → m < suc n → Elf.conversion_at noted m ≡ conversion_of (class_of headers m) (before + rowed_below headers m)
  unfolding note_of
  noted-cells m l =
      by-test (eqb m n)
      (λ t.
      let e : m ≡ n = eqb-true _ _ t in
      rw e (row_same s.work n row 0 refl (omega arith) (omega (arith, h.room)) ∙ ap (conversion_of class) h.counted))
      (λ t. let u : m ≢ n = eqb-false _ _ t in row_other s.work n row m 0 refl (omega arith) u ∙ h.cells m (omega arith))

  zeros : (f : ℕ) → 1 ≤ f → f < 8 → get_or row f 0 ≡ 0
  zeros zero a b = absurd (omega arith)
  zeros (suc zero) a b = refl
  zeros (suc (suc zero)) a b = refl
  zeros (suc (suc (suc zero))) a b = refl
  zeros (suc (suc (suc (suc zero)))) a b = refl
  zeros (suc (suc (suc (suc (suc zero))))) a b = refl
  zeros (suc (suc (suc (suc (suc (suc zero)))))) a b = refl
  zeros (suc (suc (suc (suc (suc (suc (suc zero))))))) a b = refl
  zeros (suc (suc (suc (suc (suc (suc (suc (suc f)))))))) a b = absurd (omega arith)

  noted-clean : (m f : ℕ) → m < suc n → 1 ≤ f → f < 8 → get_or noted (m * 8 + f) 0 ≡ 0
  unfolding note_of
  noted-clean m f l a b =
      by-test (eqb m n)
      (λ t. let e : m ≡ n = eqb-true _ _ t in rw e (row_same s.work n row f refl b (omega (arith, h.room)) ∙ zeros f a b))
      (λ t. let u : m ≢ n = eqb-false _ _ t in row_other s.work n row m f refl b u ∙ h.clean m f (omega arith) a b)

  noted-table : table_after s.reserved.table class n ≡ table_to headers (suc n)
  unfolding table_after
  noted-table =
      rw (class-table headers n low)
      (by-test (loaded_as headers n symbol_table) (λ t. rw t (next-is n (omega arith))) (λ t. rw t h.table))

  abbrev number : ℕ
  number = reserve_number (link_in s) s.sections class s.reserved.table

  pub class-room : class ≡ 2 → number ≡ 0 → Sections.room_of (link_in s) s.sections ≡ true
  unfolding reserve_number
  class-room c z =
      by-test (Sections.room_of (link_in s) s.sections) (λ t. t) (λ t. let q : ◌≡◌ {A = ℕ} 2 0 = rw (c, t) at z in absurd (omega arith))

  pub one-noted : number ≡ 0 → NotedTo headers before (suc n) (reserve_one_of headers s n)
  unfolding reserve_one_of reserve_class_of take_row_of Sections.reserve_of rowed_below
  one-noted goes =
      by-test (eqb class 2)
      (λ c.
      let r : Sections.room_of (link_in s) s.sections ≡ true = class-room (eqb-true _ _ c) goes in
      let e : is_rowed headers n ≡ true = sym (class-rowed headers n low) ∙ c in
      rw (eq-eqb _ _ goes, c, r)
      (record {
        room = noted-room;
        counted = rw e (omega (arith, h.counted));
        cells = noted-cells;
        clean = noted-clean;
        table = noted-table;
      }))
      (λ c.
      let e : is_rowed headers n ≡ false = sym (class-rowed headers n low) ∙ c in
      rw (eq-eqb _ _ goes, c)
      (record { room = noted-room; counted = rw e h.counted; cells = noted-cells; clean = noted-clean; table = noted-table }))

  pub one_number : (reserve_one_of headers s n).reserved.number ≡ 0 → number ≡ 0
  unfolding reserve_one_of reserve_class_of
  one_number e = by-test (eqb number 0) (λ t. eqb-true _ _ t) (λ t. rw t at e)

from-noted : (headers : List ℕ) (before : ℕ) → rows_in headers ≤ 65280 → (j n : ℕ) (s : State) → n + j ≡ rows_in headers → NotedTo headers before n s
    → (reserve_from headers j n s).reserved.number ≡ 0 → NotedTo headers before (rows_in headers) (reserve_from headers j n s)
unfolding reserve_from
from-noted headers before few zero n s e h z = subst (λ (n : ℕ). NotedTo headers before n s) (let q : n ≡ rows_in headers = omega arith in q) h
from-noted headers before few (suc j) n s e h z =
    by-test (eqb (reserve_one_of headers s n).reserved.number 0)
    (λ t.
    let one = one-noted headers before few s n h (omega arith) (one_number headers before few s n h (omega arith) (eqb-true _ _ t)) in
    rw t
    (from-noted headers before few j (n + 1) (reserve_one_of headers s n) (omega arith)
    (subst (λ (k : ℕ). NotedTo headers before k (reserve_one_of headers s n)) (let q : suc n ≡ n + 1 = omega arith in q) one) (rw t at z)))
    (λ t. absurd (eqb-false _ _ t (rw t at z)))

pub reserve-noted : (headers : List ℕ) (s : State) → rows_in headers ≤ 65280 → rows_in headers ≤ length s.work / 8 → s.reserved.table ≡ 0
    → (reserve_all_of headers s).reserved.number ≡ 0 → NotedTo headers (link_in s).sections (rows_in headers) (reserve_all_of headers s)
unfolding reserve_all_of rowed_below
reserve-noted headers s few room t z =
    from-noted headers (link_in s).sections few (rows_in headers) 0 s (omega arith)
    (record { room = room; counted = omega arith; cells = λ m h. absurd (omega arith); clean = λ m f h. absurd (omega arith); table = t }) z
