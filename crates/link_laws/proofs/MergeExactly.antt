-- Of a merge: each element's answer is that of its first rule that holds.
-- Assumes nothing.
use Rattle.std.specs.Prelude.{ℕ, zero, suc, ◌+◌, ◌-◌, ◌/◌, ◌%◌, ◌<◌, ◌≤◌, ◌≡◌, Bool, ◌&&◌, ◌||◌, List, eqb, get_or, length}
use Rattle.std.proofs.Common.{arith, sym, ◌∙◌, eqb-true, ltb-false, ne_eqb}
use Rattle.std.proofs.Math.Numerals.{add-one}
use Rattle.std.proofs.Math.Path.{refl, ap}
use Rattle.std.proofs.Math.Bool.{true, false, cond, not}
use Rattle.std.proofs.Math.Dec.{ltb}
use Rattle.std.proofs.lemmas.Bool.{eqb-false}
use Rattle.cells.specs.Proof.Split.{by-test}
use Rattle.link.specs.declared.Link.{Link}
use Rattle.link.specs.declared.cause.Refusal.{Refusal}
use Rattle.link.specs.Bounds.{lesser}
use Rattle.link.specs.Judge.{refused}
use Rattle.symbol.specs.Codes.{successor}
use Rattle.sections.specs.Rows as Sections
use Rattle.elf_object.specs.Rows as Elf
use Rattle.merge_sections.specs.Reserve as Reserve
use Rattle.merge_sections.specs.Reserve.{kind_class, class_of, reserve_number, table_after, reserve_class_of, reserve_one_of}
use Rattle.merge_laws.proofs.Loop.{loop}
use Rattle.link_laws.specs.Rules.{Rule, least, first_refusal, in_turn, numbered}
use Rattle.link_laws.proofs.Rules.{least-is, past, stop, first-none}
use Rattle.link_laws.proofs.AddExactly.{least-below}
use Rattle.link_laws.specs.TableRules.{conversion_in}
use Rattle.link_laws.specs.ObjectRules.{cell_at, is_excluded, is_kind}
use Rattle.link_laws.specs.MergeRules.{Found, absent, found, Reading, has_table, no_section_row, section_rules}

-- ---- a stage whose elements answer by their rules

module _ {S : Type 0} (rules : S → ℕ → List Rule) (next : S → ℕ → S) (said : S → Refusal) (Holds : S → ℕ → Type 0)
    (all : (s : S) (i : ℕ) → numbered (rules s i) ≡ true) where
  -- of m elements
  module _ (m : ℕ) (one : (s : S) (i : ℕ) → i < m → Holds s i → said (next s i) ≡ first_refusal (rules s i))
      (stays : (s : S) (i : ℕ) → i < m → Holds s i → (said (next s i)).number ≡ 0 → Holds (next s i) (i + 1)) where
    pub stage-below : (n i : ℕ) (s : S) → i + n ≤ m → Holds s i → said s ≡ refused 0 0
        → said (loop (λ (s : S). (said s).number) next n i s) ≡ first_refusal (in_turn rules next n i s)
    stage-below zero i s l h z = z
    stage-below (suc n) i s l h z =
        let e = one s i (omega arith) h in
        let later = in_turn rules next n (i + 1) (next s i) in
        by-test (eqb (said (next s i)).number 0)
        (λ a.
        let b : eqb (first_refusal (rules s i)).number 0 ≡ true = ap (λ (r : Refusal). eqb r.number 0) (sym e) ∙ a in
        rw a
        (stage-below n (i + 1) (next s i) (omega arith) (stays s i (omega arith) h (eqb-true _ _ a)) (e ∙ first-none (rules s i) (all s i) b)
        ∙ sym (past later (rules s i) (all s i) b)))
        (λ a.
        let b : eqb (first_refusal (rules s i)).number 0 ≡ false = ap (λ (r : Refusal). eqb r.number 0) (sym e) ∙ a in
        rw a (e ∙ sym (stop later (rules s i) b)))

  module _ (one : (s : S) (i : ℕ) → Holds s i → said (next s i) ≡ first_refusal (rules s i))
      (stays : (s : S) (i : ℕ) → Holds s i → (said (next s i)).number ≡ 0 → Holds (next s i) (i + 1)) where
    pub stage-exactly : (n i : ℕ) (s : S) → Holds s i → said s ≡ refused 0 0 → said (loop (λ (s : S). (said s).number) next n i s) ≡ first_refusal (in_turn rules next n i s)
    stage-exactly n i s h z = stage-below (i + n) (λ s i l. one s i) (λ s i l. stays s i) n i s (omega arith) h z

-- ---- what the elements before left, by the work rows and the ids' cells

-- a table's number and 1; 0 for none
abbrev pub found_in : ℕ → Found
found_in cell = cond (eqb cell 0) absent (found (cell - 1))

abbrev pub at_work : Bool → List ℕ → Reading
at_work gabi work =
    record {
      gabi = gabi;
      removed = λ s. eqb (cell_at work s 1) 2;
      defines = λ s. eqb (cell_at work s 1) 1;
      conversion = λ s. conversion_in (cell_at work s 0);
      table = λ n. found_in (cell_at work n 2);
    }

abbrev pub identified_by : List ℕ → ℕ → Bool
identified_by ids i = not (eqb (get_or ids i 0) 0)

-- ---- sections

abbrev number : ℕ → Bool → Bool → ℕ
number k tb full =
    cond (eqb (kind_class k) 4) 3 (cond (eqb (kind_class k) 3) (cond (not tb) 0 24) (cond (eqb (kind_class k) 2) (cond (not full) 0 2) 0))

-- the number's definition by class, and the rules by kind
kind-tree : (k n : ℕ) (tb full : Bool) → cond (eqb (number k tb full) 0) (refused 0 0) (refused (number k tb full) n)
    ≡ cond (eqb k 10 || eqb k 11 || eqb k 12 || eqb k 13) (refused 3 n)
    (cond (eqb k 3 && tb) (refused 24 n) (cond ((eqb k 1 || eqb k 2) && full) (refused 2 n) (refused 0 0)))
unfolding kind_class
kind-tree k n tb full =
    by-test (eqb k 1) (λ a. rw (eqb-true k 1 a) (either full))
    (λ a.
    by-test (eqb k 2) (λ b. rw (eqb-true k 2 b) (either full))
    (λ b.
    by-test (eqb k 3) (λ c. rw (eqb-true k 3 c) (table tb))
    (λ c.
    by-test (eqb k 10) (λ d. rw (eqb-true k 10 d))
    (λ d.
    by-test (eqb k 11) (λ e. rw (eqb-true k 11 e))
    (λ e. by-test (eqb k 12) (λ f. rw (eqb-true k 12 f)) (λ f. by-test (eqb k 13) (λ g. rw (eqb-true k 13 g)) (λ g. rw (a, b, c, d, e, f, g))))))))
  where
    either : (b : Bool) → cond (eqb (cond (not b) 0 2) 0) (refused 0 0) (refused (cond (not b) 0 2) n) ≡ cond b (refused 2 n) (refused 0 0)
    either true = refl
    either false = refl

    table : (b : Bool) → cond (eqb (cond (not b) 0 24) 0) (refused 0 0) (refused (cond (not b) 0 24) n) ≡ cond b (refused 24 n) (refused 0 0)
    table true = refl
    table false = refl

three : (k : ℕ) → eqb (kind_class k) 3 ≡ eqb k 3
unfolding kind_class
three k =
    by-test (eqb k 1) (λ a. rw (eqb-true k 1 a))
    (λ a.
    by-test (eqb k 2) (λ b. rw (eqb-true k 2 b))
    (λ b.
    by-test (eqb k 3) (λ c. rw (a, b, c))
    (λ c.
    by-test (eqb k 10) (λ d. rw (eqb-true k 10 d))
    (λ d.
    by-test (eqb k 11) (λ e. rw (eqb-true k 11 e))
    (λ e. by-test (eqb k 12) (λ f. rw (eqb-true k 12 f)) (λ f. by-test (eqb k 13) (λ g. rw (eqb-true k 13 g)) (λ g. rw (a, b, c, d, e, f, g))))))))

pub next-some : (n : ℕ) → eqb (successor n) 0 ≡ false
unfolding successor
next-some n =
    by-test (ltb n 0xffffffffffffffff) (λ e. rw e (ne_eqb (n + 1) 0 (λ (q : n + 1 ≡ 0). omega arith)))
    (λ e. let l : 0xffffffffffffffff ≤ n = ltb-false _ _ e in rw e (ne_eqb n 0 (λ (q : n ≡ 0). omega arith)))

abbrev pub section_said : Reserve.State → Refusal
section_said s = refused s.reserved.number s.reserved.place

module _ (headers : List ℕ) where
  -- a symbol table was met just if there is one below
  abbrev pub Met : Reserve.State → ℕ → Type 0
  Met s n = eqb s.reserved.table 0 ≡ not (has_table headers n)

  -- rows of a new table that still are lent
  pub room-is : (l : Link) (sections : List ℕ) → Sections.room_of l sections ≡ not (no_section_row l.sections (least l.slots (length sections / 9)))
  unfolding Sections.room_of
  room-is l sections =
      rw (least-below 65535 (lesser l.slots (length sections / 9)) l.sections, least-is l.slots (length sections / 9))
      (twice (ltb l.sections 65535 && ltb l.sections (least l.slots (length sections / 9))))
    where
      twice : (b : Bool) → cond b true false ≡ not (not b)
      twice true = refl
      twice false = refl

  pub excluded-is : (n : ℕ) → Elf.is_excluded headers n ≡ is_excluded headers n
  unfolding Elf.is_excluded
  excluded-is n = by-test (eqb (cell_at headers n 2 % 2) 1) (λ e. rw e) (λ e. rw e)

  -- number and place of one section
  class-said : (s : Reserve.State) (n class number : ℕ) → section_said (reserve_class_of s n class number) ≡ cond (eqb number 0) (refused 0 0) (refused number n)
  unfolding reserve_class_of
  class-said s n class number = by-test (eqb number 0) (λ e. rw e) (λ e. rw e)

  pub section-exactly : (s : Reserve.State) (n : ℕ) → Met s n → section_said (reserve_one_of headers s n) ≡ first_refusal (section_rules headers (least s.reserved.link.slots (length s.sections / 9)) s.reserved.link.sections n)
  unfolding reserve_one_of class_of kind_class reserve_number
  section-exactly s n m =
      class-said s n (class_of headers n) (reserve_number s.reserved.link s.sections (class_of headers n) s.reserved.table)
      ∙ rw (excluded-is n, room-is s.reserved.link s.sections, m)
      (by-test (is_excluded headers n) (λ x. rw x)
      (λ x. rw x (kind-tree (cell_at headers n 0) n (has_table headers n) (no_section_row s.reserved.link.sections (least s.reserved.link.slots (length s.sections / 9))))))

  class-table : (s : Reserve.State) (n class number : ℕ) → (section_said (reserve_class_of s n class number)).number ≡ 0
      → (reserve_class_of s n class number).reserved.table ≡ table_after s.reserved.table class n
  unfolding reserve_class_of
  class-table s n class number z = by-test (eqb number 0) (λ e. rw e) (λ e. absurd (eqb-false number 0 e (rw e at z)))

  pub class-three : (n : ℕ) → eqb (class_of headers n) 3 ≡ is_kind headers n 3
  unfolding class_of
  class-three n = rw (excluded-is n) (by-test (is_excluded headers n) (λ x. rw x) (λ x. rw x (three (cell_at headers n 0))))

  pub section-table : (s : Reserve.State) (n : ℕ) → Met s n → (section_said (reserve_one_of headers s n)).number ≡ 0 → Met (reserve_one_of headers s n) (n + 1)
  unfolding reserve_one_of table_after
  section-table s n m z =
      rw (class-table s n _ _ z, class-three n, add-one n)
      (by-test (is_kind headers n 3) (λ e. rw (e, next-some n) (sym (ap not (some (has_table headers n))))) (λ e. rw e (m ∙ ap not (none (has_table headers n)))))
    where
      some : (b : Bool) → b || true ≡ true
      some true = refl
      some false = refl

      none : (b : Bool) → b ≡ b || false
      none true = refl
      none false = refl
