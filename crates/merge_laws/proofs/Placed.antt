-- Where each section of an object lies: its work row names a row that was reserved for it.
-- Assumes nothing.
use Prim.Native.Nat.{ℕ, zero, suc, ◌+◌, ◌*◌, ◌/◌, ◌<◌, ◌≤◌}
use native.Mathlib.Omega.{arith}
use Rattle.std.proofs.Math.Path.{◌≡◌, refl}
use Rattle.std.proofs.Common.{sym, ap, ◌∙◌, subst, get_or-set_other, le_trans}
use Rattle.std.proofs.Math.Bool.{true}
use Rattle.std.specs.Prelude.{cond, List, ◌≢◌, eqb, ltb, leb, length}
use Rattle.std.proofs.lemmas.Bool.{false≢true}
use borrow.Author.Tests.{eqb-true, eqb-false, ltb-true, ltb-false, leb-true, leb-false, eq-eqb, lt-ltb, le-ltb}
use Rattle.cells.specs.Proof.Split.{by-test}
use Rattle.cells.specs.Rows.{put_row}
use Rattle.cells.specs.Proof.Rows.{length-put_row, row_same, row_other}
use Rattle.link.specs.declared.Link.{Link}
use Rattle.link.specs.Bounds.{lesser, section_slots, section_rows}
use Rattle.link.specs.Counts.{more_sections}
use Rattle.symbol.specs.Codes.{successor}
use Rattle.sections.specs.Rows as Sections
use Rattle.elf_object.specs.Rows.{rows_in, field, kind_at, info_at, is_excluded, is_loaded, conversion_at, work_cells, nothing}
use Rattle.merge_sections.specs.Reserve.{State, kind_class, class_of, reserve_number, conversion_of, note_of, take_row_of, reserve_class_of, reserve_one_of, reserve_from, reserve_all_of}
use Rattle.merge_sections.specs.Notes.{each_from, note_table_of, note_tables_of, clear_one_of, clear_all_of, is_table}
use Rattle.merge_build.specs.Build.{section_id_of, built_from}
use Rattle.symbol_laws.proofs.View.{lesser-first, lesser-second}
use Rattle.merge_laws.proofs.Beside.{Beside, beside_none, beside-both, row-beside}
use Rattle.merge_laws.proofs.Loop.{loop}
use Rattle.merge_laws.specs.Placed.{row_of}

-- the first n sections' rows are below the count
abbrev pub PlacedTo : ℕ → List ℕ → List ℕ → ℕ → Type 0
PlacedTo n headers work count = (m : ℕ) → m < n → class_of headers m ≡ 2 → row_of work m < count

-- no two of them have the same row
abbrev pub ApartTo : ℕ → List ℕ → List ℕ → Type 0
ApartTo n headers work = (m k : ℕ) → m < k → k < n → class_of headers m ≡ 2 → class_of headers k ≡ 2 → row_of work m < row_of work k

-- and each row is reserved
abbrev pub HeldTo : ℕ → List ℕ → List ℕ → List ℕ → Type 0
HeldTo n headers work sections = (m : ℕ) → m < n → class_of headers m ≡ 2 → Sections.state_at sections (row_of work m) ≡ 1

abbrev pub Placed : List ℕ → List ℕ → ℕ → Type 0
Placed headers work count = PlacedTo (rows_in headers) headers work count

-- the first cells of the object's sections stand as they stood
abbrev pub Firsts : ℕ → List ℕ → List ℕ → Type 0
Firsts rows x y = (m : ℕ) → m < rows → conversion_at y m ≡ conversion_at x m

pub placed-firsts : (headers x y : List ℕ) (count : ℕ) → Firsts (rows_in headers) x y → Placed headers x count → Placed headers y count
placed-firsts headers x y count f p m h c = subst (λ (k : ℕ). (section_id_of k).0 < count) (sym (f m h)) (p m h c)

-- ---- the notes

module _ (step : List ℕ → ℕ → List ℕ) (Holds : List ℕ → Type 0) (stays : (w : List ℕ) (i : ℕ) → Holds w → Holds (step w i)) where
  each_holds : (n i : ℕ) (w : List ℕ) → Holds w → Holds (each_from step n i w)
  unfolding each_from
  each_holds zero i w h = h
  each_holds (suc n) i w h = each_holds n (i + 1) (step w i) (stays w i h)

note-table : (headers w : List ℕ) (t : ℕ) → Firsts (rows_in headers) w (note_table_of headers w t)
unfolding note_table_of
note-table headers w t m h =
    by-test (leb (rows_in headers) (info_at headers t)) (λ a. rw a)
    (λ a.
    by-test (is_table headers t) (λ b. rw (a, b) (get_or-set_other w (info_at headers t * 8 + 2) (m * 8 + 0) (successor t) 0 (λ e. omega arith)))
    (λ b. rw (a, b)))

clear-one : (rows : ℕ) (entries w : List ℕ) (i : ℕ) → Firsts rows w (clear_one_of rows entries w i)
unfolding clear_one_of note_of
clear-one rows entries w i m h =
    by-test (leb rows (field entries i 4))
    (λ a.
    let k : rows ≤ field entries i 4 = leb-true _ _ a in
    rw a (row_other w (field entries i 4) (work_cells nothing) m 0 refl (omega arith) (λ e. omega arith)))
    (λ a. rw a)

pub noted-firsts : (headers entries w : List ℕ) → Firsts (rows_in headers) w (clear_all_of (rows_in headers) entries (note_tables_of headers w))
unfolding clear_all_of note_tables_of
noted-firsts headers entries w =
    each_holds (clear_one_of (rows_in headers) entries) (Firsts (rows_in headers) w)
    (λ v i f m h. clear-one (rows_in headers) entries v i m h ∙ f m h) (rows_in entries) 0 _
    (each_holds (note_table_of headers) (Firsts (rows_in headers) w) (λ v i f m h. note-table headers v i m h ∙ f m h) (rows_in headers) 0 w (λ m h. refl))

-- ---- sections reserved

abbrev pub link_in : State → Link
link_in s = s.reserved.link

-- what holds before the n-th section
record Held (headers : List ℕ) (n : ℕ) (s : State) : Type 0 where
  room : rows_in headers ≤ length s.work / 8
  lent : (link_in s).slots ≤ section_slots (length s.sections)
  counted : (link_in s).sections ≤ section_rows (link_in s).slots
  placed : PlacedTo n headers s.work (link_in s).sections
  apart : ApartTo n headers s.work
  held : HeldTo n headers s.work s.sections

pub few : (n : ℕ) → section_rows n ≤ 65535
few n = lesser-first 65535 n

pub slots : (n : ℕ) → section_rows n ≤ n
slots n = lesser-second 65535 n

-- where its row goes: the id and 2
pub converted : (id : ℕ) → id < 65535 → (section_id_of (conversion_of 2 id)).0 ≡ id
unfolding section_id_of conversion_of successor
converted id h =
    rw (lt-ltb id 0xffffffffffffffff (omega arith), lt-ltb (id + 1) 0xffffffffffffffff (omega arith), le-ltb (id + 1 + 1) 2 (omega arith)) (omega arith)

lesser-grows : (a b c : ℕ) → b ≤ c → lesser a b ≤ lesser a c
unfolding lesser
lesser-grows a b c h =
    by-test (ltb a b) (λ t. let k : a < b = ltb-true _ _ t in rw (t, lt-ltb a c (omega arith)) (omega arith))
    (λ t. let k : b ≤ a = ltb-false _ _ t in by-test (ltb a c) (λ u. rw (t, u) k) (λ u. rw (t, u) h))

has_room : (l : Link) (rows : List ℕ) → Sections.room_of l rows ≡ true → l.sections < section_rows l.slots
unfolding Sections.room_of
has_room l rows e =
    let n : ℕ = lesser l.slots (section_slots (length rows)) in
    by-test (ltb l.sections (section_rows n)) (λ t. le_trans (ltb-true _ _ t) (lesser-grows 65535 n l.slots (lesser-first l.slots _)))
    (λ t. absurd (false≢true (rw t at e)))

-- one section: its row is beside the table, and where its work row says
module _ (headers : List ℕ) (s : State) (n : ℕ) where
  abbrev class : ℕ
  class = class_of headers n

  abbrev number : ℕ
  number = reserve_number (link_in s) s.sections class s.reserved.table

  class-room : class ≡ 2 → number ≡ 0 → Sections.room_of (link_in s) s.sections ≡ true
  unfolding reserve_number
  class-room c z =
      by-test (Sections.room_of (link_in s) s.sections) (λ t. t) (λ t. let q : ◌≡◌ {A = ℕ} 2 0 = rw (c, t) at z in absurd (omega arith))

  one-beside : Beside s.sections (link_in s) (reserve_one_of headers s n).sections (link_in (reserve_one_of headers s n))
  unfolding reserve_one_of reserve_class_of take_row_of Sections.reserve_of
  one-beside =
      by-test (eqb number 0)
      (λ t.
      by-test (eqb class 2)
      (λ c.
      by-test (Sections.room_of (link_in s) s.sections)
      (λ r.
      let k : (link_in s).sections < section_rows (link_in s).slots = has_room (link_in s) s.sections r in
      let m : section_rows (link_in s).slots ≤ (link_in s).slots = slots (link_in s).slots in
      rw (t, c, r) (row-beside s.sections (link_in s).sections _ (link_in s) (more_sections (link_in s)) refl (omega arith) (omega arith) (omega arith) refl
      (λ b. (omega arith, b.1))))
      (λ r. rw (t, c, r) (beside_none s.sections (link_in s))))
      (λ c. rw (t, c) (beside_none s.sections (link_in s))))
      (λ t. rw t (beside_none s.sections (link_in s)))

  abbrev here : ℕ
  here = (link_in s).sections

  module _ (h : Held headers n s) (in_rows : n < rows_in headers) (goes : number ≡ 0) where
    abbrev noted : List ℕ
    noted = note_of s.work n (conversion_of class here)

    noted-long : length noted ≡ length s.work
    unfolding note_of
    noted-long = length-put_row s.work n _

    noted_other : (m : ℕ) → m ≢ n → conversion_at noted m ≡ conversion_at s.work m
    unfolding note_of
    noted_other m u = row_other s.work n (work_cells (conversion_of class here)) m 0 refl (omega arith) u

    noted-own : conversion_at noted n ≡ conversion_of class here
    unfolding note_of
    noted-own = row_same s.work n (work_cells (conversion_of class here)) 0 refl (omega arith) (omega (arith, h.room))

    -- the rows before it, and its own
    more : (count : ℕ) → here ≤ count → (class ≡ 2 → here < count) → (class ≡ 2 → here < 65535) → PlacedTo (n + 1) headers noted count
    more count a b d m k c =
        by-test (eqb m n)
        (λ t.
        let e : m ≡ n = eqb-true _ _ t in
        let c' : class ≡ 2 = ap (class_of headers) (sym e) ∙ c in
        let q : row_of noted m ≡ here =
        ap (row_of noted) e ∙ ap (λ (k : ℕ). (section_id_of k).0) (noted-own ∙ ap (λ (k : ℕ). conversion_of k here) c') ∙ converted here (d c') in
        let z : here < count = b c' in
        omega arith)
        (λ t.
        let u : m ≢ n = eqb-false _ _ t in
        let l : m < n = omega arith in
        let z : row_of s.work m < here = h.placed m l c in
        let q : row_of noted m ≡ row_of s.work m = ap (λ (k : ℕ). (section_id_of k).0) (noted_other m u) in
        omega arith)

    own_row : class ≡ 2 → here < 65535 → row_of noted n ≡ here
    own_row c d = ap (λ (k : ℕ). (section_id_of k).0) (noted-own ∙ ap (λ (k : ℕ). conversion_of k here) c) ∙ converted here d

    old_row : (m : ℕ) → m ≢ n → row_of noted m ≡ row_of s.work m
    old_row m u = ap (λ (k : ℕ). (section_id_of k).0) (noted_other m u)

    more-apart : (class ≡ 2 → here < 65535) → ApartTo (n + 1) headers noted
    more-apart d m k l e cm ck =
        let p : row_of noted m ≡ row_of s.work m = old_row m (λ q. omega arith) in
        by-test (eqb k n)
        (λ t.
        let q : k ≡ n = eqb-true _ _ t in
        let c : class ≡ 2 = ap (class_of headers) (sym q) ∙ ck in
        let r : row_of noted k ≡ here = ap (row_of noted) q ∙ own_row c (d c) in
        let z : row_of s.work m < here = h.placed m (omega arith) cm in
        omega arith)
        (λ t.
        let u : k ≢ n = eqb-false _ _ t in
        let r : row_of noted k ≡ row_of s.work k = old_row k u in
        let z : row_of s.work m < row_of s.work k = h.apart m k l (omega arith) cm ck in
        omega arith)

    -- the same rows, where it has none itself
    same-held : class ≢ 2 → HeldTo (n + 1) headers noted s.sections
    same-held w m k c =
        let u : m ≢ n = λ q. w (ap (class_of headers) (sym q) ∙ c) in
        ap (λ (r : ℕ). Sections.state_at s.sections r) (old_row m u) ∙ h.held m (omega arith) c

    more-held : class ≡ 2 → here < 65535 → here * 8 + 8 ≤ length s.sections → HeldTo (n + 1) headers noted (put_row s.sections here Sections.reserved_cells)
    more-held c d f m k cm =
        let row : List ℕ = Sections.reserved_cells in
        by-test (eqb m n)
        (λ t.
        ap (λ (r : ℕ). Sections.state_at (put_row s.sections here row) r) (ap (row_of noted) (eqb-true m n t) ∙ own_row c d)
        ∙ row_same s.sections here row 0 refl (omega arith) f)
        (λ t.
        let u : m ≢ n = eqb-false _ _ t in
        let z : row_of s.work m < here = h.placed m (omega arith) cm in
        ap (λ (r : ℕ). Sections.state_at (put_row s.sections here row) r) (old_row m u)
        ∙ row_other s.sections here row (row_of s.work m) 0 refl (omega arith) (λ q. omega arith) ∙ h.held m (omega arith) cm)

    one-held : Held headers (n + 1) (reserve_one_of headers s n)
    unfolding reserve_one_of reserve_class_of take_row_of Sections.reserve_of
    one-held =
        by-test (eqb class 2)
        (λ c.
        let c' : class ≡ 2 = eqb-true _ _ c in
        let r : Sections.room_of (link_in s) s.sections ≡ true = class-room c' goes in
        let k : here < section_rows (link_in s).slots = has_room (link_in s) s.sections r in
        let z : section_rows (link_in s).slots ≤ 65535 = few (link_in s).slots in
        rw (eq-eqb _ _ goes, c, r)
        (record {
          room = omega (arith, noted-long, h.room);
          lent = rw (length-put_row s.sections here Sections.reserved_cells) h.lent;
          counted = omega arith;
          placed = more (here + 1) (omega arith) (λ e. omega arith) (λ e. omega arith);
          apart = more-apart (λ e. omega arith);
          held = more-held c' (omega arith) (omega (arith, slots (link_in s).slots, h.lent));
        }))
        (λ c.
        let u : class ≢ 2 = eqb-false _ _ c in
        rw (eq-eqb _ _ goes, c)
        (record { room = omega (arith, noted-long, h.room); lent = h.lent; counted = h.counted; placed = more here (omega arith) (λ e. absurd (u e)) (λ e. absurd (u e)); apart = more-apart (λ e. absurd (u e)); held = same-held u }))

one_number : (headers : List ℕ) (s : State) (n : ℕ) → (reserve_one_of headers s n).reserved.number ≡ 0 → number headers s n ≡ 0
unfolding reserve_one_of reserve_class_of
one_number headers s n e =
    by-test (eqb (number headers s n) 0) (λ t. eqb-true _ _ t) (λ t. rw t at e)

from-held : (headers : List ℕ) (k n : ℕ) (s : State) → n + k ≡ rows_in headers → Held headers n s → (reserve_from headers k n s).reserved.number ≡ 0
    → Held headers (rows_in headers) (reserve_from headers k n s)
unfolding reserve_from
from-held headers zero n s e h z = subst (λ (n : ℕ). Held headers n s) (let q : n ≡ rows_in headers = omega arith in q) h
from-held headers (suc k) n s e h z =
    by-test (eqb (reserve_one_of headers s n).reserved.number 0)
    (λ t.
    rw t
    (from-held headers k (n + 1) (reserve_one_of headers s n) (omega arith)
    (one-held headers s n h (omega arith) (one_number headers s n (eqb-true _ _ t))) (rw t at z)))
    (λ t. absurd (eqb-false _ _ t (rw t at z)))

pub from-beside : (headers : List ℕ) (k n : ℕ) (s : State) → Beside s.sections (link_in s) (reserve_from headers k n s).sections (link_in (reserve_from headers k n s))
unfolding reserve_from
from-beside headers zero n s = beside_none s.sections (link_in s)
from-beside headers (suc k) n s =
    by-test (eqb (reserve_one_of headers s n).reserved.number 0)
    (λ t.
    rw t
    (beside-both s.sections (reserve_one_of headers s n).sections _ (link_in s) (link_in (reserve_one_of headers s n)) _ (one-beside headers s n)
    (from-beside headers k (n + 1) (reserve_one_of headers s n))))
    (λ t. rw t (one-beside headers s n))

pub reserve-beside : (headers : List ℕ) (s : State) → Beside s.sections (link_in s) (reserve_all_of headers s).sections (link_in (reserve_all_of headers s))
unfolding reserve_all_of
reserve-beside headers s = from-beside headers (rows_in headers) 0 s

-- after all sections
pub record Reserved (headers work : List ℕ) (slots count : ℕ) : Type 0 where
  pub counted : count ≤ section_rows slots
  pub placed : Placed headers work count

pub reserve-placed : (headers : List ℕ) (s : State) → rows_in headers ≤ length s.work / 8 → (link_in s).slots ≤ section_slots (length s.sections) → (link_in s).sections ≤ section_rows (link_in s).slots
    → (reserve_all_of headers s).reserved.number ≡ 0
    → Reserved headers (reserve_all_of headers s).work (link_in (reserve_all_of headers s)).slots (link_in (reserve_all_of headers s)).sections
unfolding reserve_all_of
reserve-placed headers s r g c z =
    let h = from-held headers (rows_in headers) 0 s (omega arith) (record { room = r; lent = g; counted = c; placed = λ m k e. absurd (omega arith); apart = λ m k l e. absurd (omega arith); held = λ m k e. absurd (omega arith) }) z in
    record { counted = h.counted; placed = h.placed }

-- each in a row of its own
pub reserve-rows : (headers : List ℕ) (s : State) → rows_in headers ≤ length s.work / 8 → (link_in s).slots ≤ section_slots (length s.sections) → (link_in s).sections ≤ section_rows (link_in s).slots
    → (reserve_all_of headers s).reserved.number ≡ 0
    → ApartTo (rows_in headers) headers (reserve_all_of headers s).work × HeldTo (rows_in headers) headers (reserve_all_of headers s).work (reserve_all_of headers s).sections
unfolding reserve_all_of
reserve-rows headers s r g c z =
    let h = from-held headers (rows_in headers) 0 s (omega arith) (record { room = r; lent = g; counted = c; placed = λ m k e. absurd (omega arith); apart = λ m k l e. absurd (omega arith); held = λ m k e. absurd (omega arith) }) z in
    (h.apart, h.held)

-- ---- a section that is built has a row

pub loaded-class : (headers : List ℕ) (n kind : ℕ) → kind_class kind ≡ 2 → is_loaded headers n kind ≡ true → (n < rows_in headers) × (class_of headers n ≡ 2)
unfolding is_loaded class_of
loaded-class headers n kind k e =
    by-test (leb (rows_in headers) n) (λ a. absurd (false≢true (rw a at e)))
    (λ a.
    by-test (is_excluded headers n) (λ b. absurd (false≢true (rw (a, b) at e)))
    (λ b.
    by-test (eqb (kind_at headers n) kind) (λ c. (leb-false _ _ a, rw b (ap kind_class (eqb-true _ _ c) ∙ k)))
    (λ c. absurd (false≢true (rw (a, b, c) at e)))))

pub built-placed : (headers work : List ℕ) (count n kind : ℕ) → Placed headers work count → kind_class kind ≡ 2 → built_from headers work n kind ≡ true
    → row_of work n < count
unfolding built_from
built-placed headers work count n kind p k e =
    by-test (is_loaded headers n kind) (λ a. let c = loaded-class headers n kind k a in p n c.0 c.1) (λ a. absurd (false≢true (rw a at e)))

-- ---- the loop

pub reserve-loop : (headers : List ℕ) (k n : ℕ) (s : State) → reserve_from headers k n s ≡ loop (λ t. t.reserved.number) (reserve_one_of headers) k n s
unfolding reserve_from
reserve-loop headers zero n s = refl
reserve-loop headers (suc k) n s =
    ap (λ (t : State). cond (eqb (reserve_one_of headers s n).reserved.number 0) t (reserve_one_of headers s n)) (reserve-loop headers k (n + 1) (reserve_one_of headers s n))
