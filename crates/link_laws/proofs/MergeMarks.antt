-- What a merge's groups leave in the work rows is what the object says: the sections that are removed, and those that define a group.
-- Assumes nothing.
use Prim.Native.Nat.{ℕ, zero, suc, ◌/◌, ◌<◌, ◌≤◌}
use Rattle.std.proofs.Common.{arith, zero-add, sym, ◌∙◌, subst, append-nil, ltb-true, ltb-false, le-ltb}
use Rattle.std.proofs.Math.Path.{◌≡◌, ap}
use Rattle.std.specs.Prelude.{refl, Bool, false, ◌&&◌, ◌||◌, List, [], ◌∷◌, ◌++◌, eqb, ltb, get_or, length}
use Rattle.std.proofs.Math.Bool.{true, cond}
use Rattle.std.proofs.lemmas.Bool.{eqb-false}
use Rattle.cells.specs.Proof.Split.{by-test}
use Rattle.gabi.specs.StringTable.{same_name, among}
use Rattle.interner.specs.Names.{find_of}
use Rattle.interner_laws.proofs.Find.{found}
use Rattle.elf_object.specs.Rows as Elf
use Rattle.section_groups.specs.Group as Group
use Rattle.section_groups.specs.Group.{all_marked, mark_group_of, mark_all, group_section_of, groups_from, groups_of}
use Rattle.merge_stages.specs.Stages.{All, Object, Tabled, group_object}
use Rattle.symbol_laws.specs.History.{State, store}
use Rattle.merge_laws.proofs.GroupMarks.{each-holds, group-marks, marks-lent}
use Rattle.merge_laws.proofs.Accepted.{going, next-going}
use Rattle.merge_laws.proofs.WorkGroups.{group-cell, listed-cell, group-long, mark-after, told, told_more, told_same, groups-next}
use Rattle.merge_laws.specs.MergeWords.{is_listed}
use Rattle.merge_laws.specs.Marked.{Marked}
use Rattle.merge_laws.specs.Whole.{table_in}
use Rattle.merge_laws.specs.FirstKept as FirstKept
use Rattle.merge_laws.specs.FirstKept.{met_to}
use Rattle.merge_laws.proofs.FirstKept.{to-marked, met-group, met-other}
use Rattle.merge_laws.specs.Stops.{reserved, object, prepared, grouped, marked, groups_to}
use Rattle.link_laws.specs.Rules.{some}
use Rattle.link_laws.proofs.InternExactly.{among-found}
use Rattle.link_laws.specs.ObjectRules.{cell_at, is_section}
use Rattle.link_laws.specs.GroupRules.{is_met, some_of, signature, listed}
use Rattle.link_laws.proofs.MergeGroups.{loaded-is, any-some, or_assoc, some-last}
use Rattle.link_laws.proofs.MergeSymbols.{find-is, looked-found, looked-name}
use Rattle.link_laws.specs.MergeRules.{lists, is_met_before}

-- ---- signatures

met-is : (t : State) (met : List (List ℕ)) → Marked t met → (x : List ℕ) → among x met ≡ is_met t x
met-is t met m x =
    let r = find_of t.bytes t.names t.link x in
    let c = m.good.chained in
    by-test (ltb r t.link.names)
    (λ e.
    let l : r < t.link.names = ltb-true _ _ e in
    let q : eqb (cell_at t.names r 4) 1 ≡ among x met = m.marks r l ∙ ap (λ (y : List ℕ). among y met) ((found (store t) x c).hit l) in
    sym q ∙ rw (among-found t c x, e, ← find-is t c x))
    (λ e.
    rw (among-found t c x, e)
    (by-test (among x met) (λ b. let h = m.known x b in let k : t.link.names ≤ r = ltb-false _ _ e in absurd (omega arith)) (λ b. b)))

among-snoc : (x y : List ℕ) (l : List (List ℕ)) → among x (l ++ (y ∷ [])) ≡ among x l || same_name y x
unfolding among
among-snoc x y [] = by-test (same_name y x) (λ e. rw e) (λ e. rw e)
among-snoc x y (z ∷ l) = by-test (same_name z x) (λ e. rw e) (λ e. rw e (among-snoc x y l))

-- ---- one group

module _ (o : Group.Object) (s : Group.Step) (n : ℕ) (group : is_section o.headers n 7 ≡ true) (accepted : (group_section_of o s n).stage.number ≡ 0) where
  signed : (Group.signature_of o.headers o.entries o.image o.table n).found ≡ true
  unfolding group_section_of Group.group_of Group.shaped_of Group.signed_of
  signed =
      let l : Elf.is_loaded o.headers n 7 ≡ true = loaded-is o.headers n 7 ∙ group in
      by-test (Group.signature_of o.headers o.entries o.image o.table n).found (λ c. c)
      (λ c.
      by-test (eqb (Group.shape_of o s.work n) 0)
      (λ b. let z : ◌≡◌ {A = ℕ} 7 0 = rw (l, b, c) at accepted in absurd (omega arith))
      (λ b. absurd (eqb-false _ _ b (rw (l, b) at accepted))))

  -- its signature's name
  signature-is : (Group.signature_of o.headers o.entries o.image o.table n).name ≡ signature o n
  unfolding Group.signature_of
  signature-is =
      looked-name o.headers o.image (cell_at o.headers o.table 3) (cell_at o.entries (cell_at o.headers n 4) 0)
      (sym (looked-found o.headers o.image (cell_at o.headers o.table 3) (cell_at o.entries (cell_at o.headers n 4) 0)) ∙ signed)

-- ---- all groups of an object

module _ (o : Object) (a : All) (met : List (List ℕ)) (m : Marked (table_in a) met) (passed : (grouped o a).stage.number ≡ 0) where
  abbrev d : Tabled
  d = object o a

  abbrev g : Group.Object
  g = group_object d

  abbrev rows : ℕ
  rows = length o.headers / 8

  abbrev t : State
  t = table_in a

  met-to : (n : ℕ) → n ≤ rows → (x : List ℕ) → among x (met_to o a met n) ≡ is_met_before d t n x
  met-to zero l x = ap (among x) (append-nil met) ∙ met-is t met m x ∙ or-none (is_met t x)
    where
      or-none : (b : Bool) → b ≡ b || false
      or-none true = refl
      or-none false = refl
  met-to (suc n) l x =
      let before = met-to n (omega arith) x in
      let last : is_met_before d t (suc n) x ≡ is_met_before d t n x || (is_section o.headers n 7 && same_name (signature g n) x) =
      ap (◌||◌ (is_met t x)) (some-last (λ h. is_section o.headers h 7 && same_name (signature g h) x) n 0 ∙ ap (λ (k : ℕ). some (λ h. is_section o.headers h 7 && same_name (signature g h) x) 0 n || (is_section o.headers k 7 && same_name (signature g k) x)) (zero-add n))
      ∙ or_assoc (is_met t x) (some (λ h. is_section o.headers h 7 && same_name (signature g h) x) 0 n) (is_section o.headers n 7 && same_name (signature g n) x) in
      by-test (is_section o.headers n 7)
      (λ e.
      let q = met-group o a met m n (going o a passed n (omega arith)) (loaded-is o.headers n 7 ∙ e) (next-going o a passed n l) in
      ap (among x) q ∙ among-snoc x _ (met_to o a met n)
      ∙ ap (λ (b : Bool). b || same_name (FirstKept.signature o a n) x) before ∙ ap (λ (y : List ℕ). is_met_before d t n x || same_name y x) (signature-is g (groups_to o a n) n e (next-going o a passed n l))
      ∙ sym (last ∙ rw e))
      (λ e.
      let q = met-other o a met m n (going o a passed n (omega arith)) (loaded-is o.headers n 7 ∙ e) in
      ap (among x) q ∙ before ∙ sym (last ∙ rw e (or-false (is_met_before d t n x))))
    where
      or-false : (b : Bool) → b || false ≡ b
      or-false true = refl
      or-false false = refl

  -- ---- the marks

  abbrev first : List ℕ
  first = (prepared o a).work

  abbrev removing : ℕ → ℕ → Bool
  removing s h = lists g h s && is_met_before d t h (signature g h)

  abbrev mark_is : ℕ → ℕ → ℕ
  mark_is n s = cond (some (removing s) 0 n) 2 (cond (ltb s n && is_section o.headers s 7) 1 0)

  pub record Marks (w : List ℕ) (n : ℕ) : Type 0 where
    pub long : length w ≡ length first
    pub others : (s f : ℕ) → f < 8 → (f ≡ 1 → ⊥) → (f ≡ 3 → ⊥) → cell_at w s f ≡ cell_at first s f
    pub marks : (s : ℕ) → cell_at first s 1 ≡ 0 → cell_at w s 1 ≡ mark_is n s

  -- of one group more
  one_last : (n s : ℕ) → some (removing s) 0 (suc n) ≡ some (removing s) 0 n || removing s n
  one_last n s = some-last (removing s) n 0 ∙ ap (λ (k : ℕ). some (removing s) 0 n || removing s k) (zero-add n)

  module _ (lent : rows ≤ length first / 8) (n : ℕ) (l : n < rows) (h : Marks (groups_to o a n).work n) where
    abbrev w : List ℕ
    w = (groups_to o a n).work

    -- no group
    other-section : is_section o.headers n 7 ≡ false → Marks (group_section_of g (groups_to o a n) n).work (suc n)
    unfolding group_section_of
    other-section e =
        rw (loaded-is o.headers n 7, e)
        (record {
          long = h.long;
          others = h.others;
          marks =
              λ s z.
              h.marks s z ∙ told_same (λ k. is_section o.headers k 7) s n e (some (removing s) 0 n)
              ∙ ap (λ (b : Bool). told (λ k. is_section o.headers k 7) s n (suc n) b) (sym (one_last n s ∙ ap (◌||◌ (some (removing s) 0 n)) (rw e)));
        })

    -- a group
    module _ (e : is_section o.headers n 7 ≡ true) where
      abbrev s₀ : Group.Step
      s₀ = groups_to o a n

      abbrev k : List ℕ
      k = listed g n

      abbrev again : Bool
      again = is_met_before d t n (signature g n)

      group : Elf.is_loaded o.headers n 7 ≡ true
      group = loaded-is o.headers n 7 ∙ e

      again-is : among (FirstKept.signature o a n) (met_to o a met n) ≡ again
      again-is = met-to n (omega arith) (FirstKept.signature o a n) ∙ ap (is_met_before d t n) (signature-is g s₀ n e (next-going o a passed n l))

      abbrev after : List ℕ
      after = mark_all (mark_group_of w n) again k

      work-is : (group_section_of g s₀ n).work ≡ after
      work-is =
          group-marks a.symbols (reserved o a).sections g s₀ (met_to o a met n) (to-marked o a met m n) n group (next-going o a passed n l)
          ∙ ap (λ (b : Bool). mark_all (mark_group_of w n) b k) again-is

      marks-room : again ≡ true → (j : ℕ) → j < length k → get_or k j 0 < length w / 8
      unfolding all_marked
      marks-room b j low =
          ltb-true _ _
          (each-holds (λ x. ltb x (length w / 8)) k j low
          (marks-lent a.symbols (reserved o a).sections g s₀ (met_to o a met n) (to-marked o a met m n) n group (next-going o a passed n l) (again-is ∙ b)))

      mark-is : (s : ℕ) → cell_at first s 1 ≡ 0 → cell_at after s 1 ≡ mark_is (suc n) s
      mark-is s z =
          mark-after w n k s again (omega (arith, h.long, lent)) marks-room
          ∙ ap (λ (x : ℕ). cond (again && is_listed s k) 2 (cond (eqb s n) (cond (eqb x 2) 2 1) x)) (h.marks s z)
          ∙ told_more (λ j. is_section o.headers j 7) s n e (some (removing s) 0 n) (again && is_listed s k)
          ∙ ap (λ (b : Bool). told (λ j. is_section o.headers j 7) s n (suc n) (some (removing s) 0 n || (again && b))) (any-some (λ i. eqb (get_or k i 0) s) 0 (length k))
          ∙ ap (λ (b : Bool). told (λ j. is_section o.headers j 7) s n (suc n) b)
          (sym (one_last n s ∙ ap (◌||◌ (some (removing s) 0 n)) (rw e (and_comm (some_of (λ x. eqb x s) k) again))))
        where
          and_comm : (b c : Bool) → b && c ≡ c && b
          and_comm true true = refl
          and_comm true false = refl
          and_comm false true = refl
          and_comm false false = refl

      group-section : Marks (group_section_of g s₀ n).work (suc n)
      group-section =
          subst (λ (v : List ℕ). Marks v (suc n)) (sym work-is)
          (record {
            long = group-long w again n k ∙ h.long;
            others = λ s f p q r. listed-cell again k s f p q r 0 (length k) (mark_group_of w n) ∙ group-cell w n s f p q ∙ h.others s f p q r;
            marks = mark-is;
          })

    one-section : Marks (groups_to o a (suc n)).work (suc n)
    one-section =
        subst (λ (s : Group.Step). Marks s.work (suc n)) (sym (groups-next o a passed n l))
        (by-test (is_section o.headers n 7) (λ e. group-section e) (λ e. other-section e))

  marks-to : rows ≤ length first / 8 → (n : ℕ) → n ≤ rows → Marks (groups_to o a n).work n
  unfolding groups_from
  marks-to lent zero l = record { long = refl; others = λ s f p q r. refl; marks = λ s z. z ∙ ap (λ (b : Bool). cond (b && is_section o.headers s 7) 1 0) (sym (le-ltb s 0 (omega arith))) }
  marks-to lent (suc n) l = one-section lent n (omega arith) (marks-to lent n (omega arith))

  pub all-marks : rows ≤ length first / 8 → Marks (marked o a).work rows
  unfolding groups_of
  all-marks lent = marks-to lent rows (omega arith)
