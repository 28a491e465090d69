-- What a merge's sections leave in the work rows is what the object says: conversions, and the last relocation table of each section.
-- Assumes nothing.
use Prim.Native.Nat.{ℕ, zero, suc, ◌+◌, ◌-◌, ◌/◌, ◌<◌, ◌≤◌}
use native.Mathlib.Omega.{arith}
use Rattle.std.proofs.Math.Path.{◌≡◌, refl, sym, ap, subst}
use Rattle.std.proofs.Common.{◌∙◌}
use Rattle.std.specs.Prelude.{Bool, true, cond, not, ◌&&◌, ◌||◌, List, [], ◌∷◌, ltb}
use Rattle.std.proofs.Math.Bool.{false}
use Rattle.std.proofs.lemmas.Bool.{false≢true}
use Rattle.std.proofs.Math.Dec.{eqb}
use Rattle.std.proofs.Math.ListN.{length}
use borrow.Author.Tests.{eqb-true, eqb-false, ne_eqb, ltb-true, lt-ltb}
use Rattle.cells.specs.Proof.Split.{by-test}
use Rattle.cells.specs.Proof.Rows.{length-put_row}
use Rattle.link.specs.Judge.{refused}
use Rattle.symbol.specs.Codes.{successor}
use Rattle.sections.specs.Rows as Sections
use Rattle.merge_sections.specs.Reserve as Reserve
use Rattle.merge_sections.specs.Reserve.{State, kind_class, class_of, reserve_number, note_of, take_row_of, reserve_class_of, reserve_one_of, reserve_all_of}
use Rattle.symbol_laws.specs.ObjectWords.{loaded_as, rel, rela}
use Rattle.merge_laws.specs.MergeWords.{is_rowed, rowed_below, relocates}
use Rattle.merge_laws.proofs.WorkRows.{loaded-same, class-rowed, table_to, NotedTo, one-noted, one_number}
use Rattle.merge_laws.proofs.WorkNotes.{last_to}
use Rattle.merge_laws.proofs.Loop.{loop}
use Rattle.merge_laws.proofs.Placed.{reserve-loop}
use Rattle.link_laws.specs.Rules.{Rule, least, first_refusal, each_of}
use Rattle.link_laws.proofs.Rules.{turn-of}
use Rattle.link_laws.specs.TableRules.{Conversion, nothing, not_loaded, to_section, conversion_in}
use Rattle.link_laws.specs.ObjectRules.{cell_at, is_excluded, is_kind}
use Rattle.link_laws.proofs.MergeGroups.{loaded-is}
use Rattle.link_laws.specs.MergeRules.{found, last_in, rows_below, no_section_row, section_rules}
use Rattle.link_laws.proofs.MergeExactly.{stage-below, found_in, section_said, excluded-is, room-is, Met, section-exactly, section-table}

-- ---- what holds between the elements of a loop that goes to its end

module _ {S : Type 0} (number : S → ℕ) (next : S → ℕ → S) (Holds : S → ℕ → Type 0) (m : ℕ)
    (stays : (s : S) (i : ℕ) → i < m → Holds s i → number (next s i) ≡ 0 → Holds (next s i) (i + 1)) where
  pub loop-keeps : (n i : ℕ) (s : S) → i + n ≤ m → Holds s i → number (loop number next n i s) ≡ 0 → Holds (loop number next n i s) (i + n)
  loop-keeps zero i s l h z = let e : i ≡ i + 0 = omega arith in subst (Holds s) e h
  loop-keeps (suc n) i s l h z =
      let e : i + 1 + n ≡ i + suc n = omega arith in
      by-test (eqb (number (next s i)) 0)
      (λ a. rw a (subst (Holds (loop number next n (i + 1) (next s i))) e (loop-keeps n (i + 1) (next s i) (omega arith) (stays s i (omega arith) h (eqb-true _ _ a)) (rw a at z))))
      (λ a. absurd (eqb-false _ _ a (rw a at z)))

-- ---- sections

next-is : (n : ℕ) → n < 0xffffffffffffffff → successor n ≡ n + 1
unfolding successor
next-is n h = rw (lt-ltb n 0xffffffffffffffff h)

-- a number and 1
found-next : (n : ℕ) → found_in (n + 1) ≡ found n
found-next n = let e : n + 1 - 1 ≡ n = omega arith in rw (ne_eqb (n + 1) 0 (λ (q : n + 1 ≡ 0). omega arith), e)

module _ (headers : List ℕ) where
  kind-is : (n kind : ℕ) → n < length headers / 8 → loaded_as headers n kind ≡ is_kind headers n kind
  kind-is n kind l = sym (loaded-same headers n kind) ∙ loaded-is headers n kind ∙ rw (lt-ltb n (length headers / 8) l)

  rowed-is : (n : ℕ) → n < length headers / 8 → is_rowed headers n ≡ is_kind headers n 1 || is_kind headers n 2
  unfolding is_rowed
  rowed-is n l = rw (kind-is n 1 l, kind-is n 2 l)

  below-is : (n : ℕ) → n ≤ length headers / 8 → rowed_below headers n ≡ rows_below headers n
  unfolding rowed_below
  below-is zero l = refl
  below-is (suc n) l =
      let r = below-is n (omega arith) in
      rw (rowed-is n (omega arith)) (by-test (is_kind headers n 1 || is_kind headers n 2) (λ a. rw a (omega arith)) (λ a. rw a (omega arith)))

  table-found : (n : ℕ) → n ≤ length headers / 8 → found_in (table_to headers n) ≡ last_in (λ m. is_kind headers m 3) n
  table-found zero l = refl
  table-found (suc n) l =
      rw (kind-is n 3 (omega arith)) (by-test (is_kind headers n 3) (λ a. rw a (found-next n)) (λ a. rw a (table-found n (omega arith))))

  class-two : (n : ℕ) → n < length headers / 8 → eqb (class_of headers n) 2 ≡ is_kind headers n 1 || is_kind headers n 2
  class-two n low = class-rowed headers n low ∙ rowed-is n low

  class-none : (n : ℕ) → eqb (class_of headers n) 0 ≡ is_excluded headers n
  unfolding class_of kind_class
  class-none n =
      rw (excluded-is headers n)
      (by-test (is_excluded headers n) (λ x. rw x)
      (λ x. rw x (go (cell_at headers n 0))))
    where
      go : (k : ℕ) → eqb (cond (eqb k 1) 2 (cond (eqb k 2) 2 (cond (eqb k 3) 3 (cond (eqb k 10) 4 (cond (eqb k 11) 4 (cond (eqb k 12) 4 (cond (eqb k 13) 4 1))))))) 0 ≡ false
      go k =
          by-test (eqb k 1) (λ a. rw a)
          (λ a.
          by-test (eqb k 2) (λ b. rw (a, b))
          (λ b.
          by-test (eqb k 3) (λ c. rw (a, b, c))
          (λ c.
          by-test (eqb k 10) (λ d. rw (a, b, c, d))
          (λ d.
          by-test (eqb k 11) (λ e. rw (a, b, c, d, e))
          (λ e. by-test (eqb k 12) (λ f. rw (a, b, c, d, e, f)) (λ f. by-test (eqb k 13) (λ g. rw (a, b, c, d, e, f, g)) (λ g. rw (a, b, c, d, e, f, g))))))))

  -- an element that isn't refused
  class-next : (s : State) (n class number : ℕ) → (section_said (reserve_class_of s n class number)).number ≡ 0
      → reserve_class_of s n class number
      ≡ Reserve.after_row s.reserved (note_of s.work n (Reserve.conversion_of class s.reserved.link.sections)) class n
      (take_row_of (Sections.sections_of s.sections s.reserved.link) class)
  unfolding reserve_class_of
  class-next s n class number z = by-test (eqb number 0) (λ e. rw e) (λ e. absurd (eqb-false number 0 e (rw e at z)))

  class-room : (s : State) (n : ℕ) → (section_said (reserve_one_of headers s n)).number ≡ 0 → eqb (class_of headers n) 2 ≡ true → no_section_row s.reserved.link.sections (least s.reserved.link.slots (length s.sections / 9)) ≡ false
  unfolding reserve_one_of reserve_class_of reserve_number
  class-room s n z c =
      let r = room-is headers s.reserved.link s.sections in
      let k : class_of headers n ≡ 2 = eqb-true _ _ c in
      by-test (no_section_row s.reserved.link.sections (least s.reserved.link.slots (length s.sections / 9)))
      (λ e. let q : ◌≡◌ {A = ℕ} 2 0 = rw (k, r, e) at z in absurd (omega arith)) (λ e. e)

  -- ---- the conversion of section n, where the first free row is the c-th

  abbrev pub placed_at : ℕ → ℕ → Conversion
  placed_at c n = cond (not (is_excluded headers n)) (cond (is_kind headers n 1 || is_kind headers n 2) (to_section (c + rows_below headers n)) not_loaded) nothing

  converted : (c n : ℕ) → n < length headers / 8 → (eqb (class_of headers n) 2 ≡ true → c + rowed_below headers n < 65535)
      → conversion_in (Reserve.conversion_of (class_of headers n) (c + rowed_below headers n)) ≡ placed_at c n
  unfolding Reserve.conversion_of
  converted c n low few =
      let count = c + rowed_below headers n in
      rw (class-none n)
      (by-test (is_excluded headers n) (λ x. rw x)
      (λ x.
      by-test (eqb (class_of headers n) 2)
      (λ k.
      let l : count < 65535 = few k in
      let q : count + 1 + 1 - 2 ≡ c + rows_below headers n = omega (arith, below-is n (omega arith)) in
      rw (
        sym (class-two n low) ∙ k,
        x,
        k,
        next-is count (omega arith),
        next-is (count + 1) (omega arith),
        ne_eqb (count + 1 + 1) 0 (λ (z : count + 1 + 1 ≡ 0). omega arith),
        ne_eqb (count + 1 + 1) 1 (λ (z : count + 1 + 1 ≡ 1). omega arith),
        q,
      ))
      (λ k. rw (sym (class-two n low) ∙ k, x, k))))

  -- ---- between two sections

  module _ (c long top slots : ℕ) where
    pub record Placed (s : State) (n : ℕ) : Type 0 where
      pub noted : NotedTo headers c n s
      pub work-long : length s.work ≡ long
      pub rows_long : length s.sections ≡ slots
      pub rows-top : s.reserved.link.slots ≡ top
      pub small : (m : ℕ) → m < n → eqb (class_of headers m) 2 ≡ true → c + rowed_below headers m < 65535

    pub none-placed : (s : State) → s.reserved.link.sections ≡ c → length s.work ≡ long → length s.sections ≡ slots → s.reserved.link.slots ≡ top
        → s.reserved.table ≡ 0 → length headers / 8 ≤ long / 8 → Placed s 0
    unfolding rowed_below
    none-placed s e w r t z lent =
        record {
          noted = record { room = omega arith; counted = omega arith; cells = λ m l. absurd (omega arith); clean = λ m f l. absurd (omega arith); table = z };
          work-long = w;
          rows_long = r;
          rows-top = t;
          small = λ m l. absurd (omega arith);
        }

    -- in document 01's words
    module _ (s : State) (n : ℕ) (h : Placed s n) (inside : n ≤ length headers / 8) where
      pub count : s.reserved.link.sections ≡ c + rows_below headers n
      count = h.noted.counted ∙ ap (◌+◌ c) (below-is n inside)

      pub table : found_in s.reserved.table ≡ last_in (λ m. is_kind headers m 3) n
      table = ap found_in h.noted.table ∙ table-found n inside

      pub conversions : (m : ℕ) → m < n → conversion_in (cell_at s.work m 0) ≡ placed_at c m
      conversions m l = ap conversion_in (h.noted.cells m l) ∙ converted c m (omega arith) (h.small m l)

    module _ (s : State) (n : ℕ) (h : Placed s n) (few : length headers / 8 ≤ 65280) (low : n < length headers / 8) (z : (section_said (reserve_one_of headers s n)).number ≡ 0) where
      abbrev class : ℕ
      class = class_of headers n

      abbrev now : ℕ
      now = s.reserved.link.sections

      abbrev after : State
      after = Reserve.after_row s.reserved (note_of s.work n (Reserve.conversion_of class now)) class n (take_row_of (Sections.sections_of s.sections s.reserved.link) class)

      after_is : reserve_one_of headers s n ≡ after
      unfolding reserve_one_of
      after_is = class-next s n class (reserve_number s.reserved.link s.sections class s.reserved.table) z

      bounded : eqb class 2 ≡ true → now < 65535
      bounded k =
          let r = class-room s n z k in
          by-test (ltb now 65535) (λ a. ltb-true _ _ a) (λ a. absurd (false≢true (sym r ∙ rw a)))

      top-after : (take_row_of (Sections.sections_of s.sections s.reserved.link) class).link.slots ≡ s.reserved.link.slots
      unfolding take_row_of Sections.reserve_of
      top-after =
          by-test (eqb class 2)
          (λ k. rw (k, room-is headers s.reserved.link s.sections, class-room s n z k))
          (λ k. rw k)

      slots-after : length (take_row_of (Sections.sections_of s.sections s.reserved.link) class).rows ≡ length s.sections
      unfolding take_row_of Sections.reserve_of
      slots-after =
          by-test (eqb class 2)
          (λ k. rw (k, room-is headers s.reserved.link s.sections, class-room s n z k) (length-put_row s.sections now _))
          (λ k. rw k)

      work-after : length after.work ≡ length s.work
      unfolding note_of
      work-after = length-put_row s.work n (Reserve.conversion_of class now ∷ 0 ∷ 0 ∷ 0 ∷ 0 ∷ 0 ∷ 0 ∷ 0 ∷ [])

      small-after : (m : ℕ) → m < n + 1 → eqb (class_of headers m) 2 ≡ true → c + rowed_below headers m < 65535
      small-after m l k =
          by-test (eqb m n)
          (λ e. let q : m ≡ n = eqb-true _ _ e in rw q (omega (arith, h.noted.counted, bounded (rw q at k))))
          (λ e. let u : m ≡ n → ⊥ = eqb-false _ _ e in h.small m (omega (arith, u)) k)

      pub placed-next : Placed (reserve_one_of headers s n) (n + 1)
      placed-next =
          let next : suc n ≡ n + 1 = omega arith in
          record {
            noted =
                subst (λ (k : ℕ). NotedTo headers c k (reserve_one_of headers s n)) next
                (one-noted headers c few s n h.noted low (one_number headers c few s n h.noted low z));
            work-long = ap (λ (r : State). length r.work) after_is ∙ work-after ∙ h.work-long;
            rows_long = ap (λ (r : State). length r.sections) after_is ∙ slots-after ∙ h.rows_long;
            rows-top = ap (λ (r : State). r.reserved.link.slots) after_is ∙ top-after ∙ h.rows-top;
            small = small-after;
          }

    -- all of them
    pub all_placed : (s : State) → length headers / 8 ≤ 65280 → Placed s 0 → (section_said (reserve_all_of headers s)).number ≡ 0
        → Placed (reserve_all_of headers s) (length headers / 8)
    unfolding reserve_all_of
    all_placed s few h z =
        let e = reserve-loop headers (length headers / 8) 0 s in
        let none : 0 + length headers / 8 ≡ length headers / 8 = omega arith in
        subst (λ (r : State). Placed r (length headers / 8)) (sym e)
        (subst (Placed (loop (λ (r : State). r.reserved.number) (reserve_one_of headers) (length headers / 8) 0 s)) none
        (loop-keeps (λ (r : State). r.reserved.number) (reserve_one_of headers) Placed (length headers / 8)
        (λ r n l h q. placed-next r n h few l q) (length headers / 8) 0 s (omega arith) h (ap (λ (r : State). r.reserved.number) (sym e) ∙ z)))

    -- and their answer
    pub record Standing (s : State) (n : ℕ) : Type 0 where
      pub placed : Placed s n
      pub met : Met headers s n

    abbrev pub rules_at : ℕ → List Rule
    rules_at n = section_rules headers (least top (slots / 9)) (c + rows_below headers n) n

    pub sections-exactly : (s : State) → length headers / 8 ≤ 65280 → Standing s 0 → section_said s ≡ refused 0 0
        → section_said (reserve_all_of headers s) ≡ first_refusal (each_of rules_at 0 (length headers / 8))
    unfolding reserve_all_of
    sections-exactly s few h z =
        ap section_said (reserve-loop headers (length headers / 8) 0 s)
        ∙ stage-below (λ s n. rules_at n) (reserve_one_of headers) section_said Standing (λ s n. refl) (length headers / 8)
        (λ r n l h.
        section-exactly headers r n h.met
        ∙ ap (λ (k : ℕ). first_refusal (section_rules headers (least r.reserved.link.slots (k / 9)) r.reserved.link.sections n)) h.placed.rows_long
        ∙ ap (λ (k : ℕ). first_refusal (section_rules headers (least k (slots / 9)) r.reserved.link.sections n)) h.placed.rows-top
        ∙ ap (λ (k : ℕ). first_refusal (section_rules headers (least top (slots / 9)) k n)) (count r n h.placed (omega arith)))
        (λ r n l h q. record { placed = placed-next r n h.placed few l q; met = section-table headers r n h.met q })
        (length headers / 8) 0 s (omega arith) h z
        ∙ ap first_refusal (turn-of rules_at (reserve_one_of headers) (length headers / 8) 0 s)

-- ---- relocation tables

module _ (headers : List ℕ) (few : length headers / 8 ≤ 65280) where
  abbrev rows : ℕ
  rows = length headers / 8

  abbrev pub applies : ℕ → ℕ → Bool
  applies n r = (is_kind headers r 5 || is_kind headers r 6) && eqb (cell_at headers r 4) n

  table_is : (r : ℕ) → r < rows → loaded_as headers r rel || loaded_as headers r rela ≡ is_kind headers r 5 || is_kind headers r 6
  table_is r l = rw (← loaded-same headers r 5, ← loaded-same headers r 6, loaded-is headers r 5, loaded-is headers r 6, lt-ltb r rows l)

  -- the number and 1 of the last table
  pub last_found : (m r : ℕ) → r ≤ rows → found_in (last_to headers m r) ≡ last_in (applies m) r
  unfolding relocates
  last_found m zero l = refl
  last_found m (suc r) l =
      rw (table_is r (omega arith))
      (by-test (applies m r) (λ e. rw e (found-next r)) (λ e. rw e (last_found m r (omega arith))))
