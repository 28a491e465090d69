-- A section that two groups of an object list, 29: which marks say so, and that a group is refused by it exactly where its words hold.
-- Assumes nothing.
use Prim.Native.Nat.{ℕ, zero, suc, ◌+◌, ◌*◌, ◌/◌, ◌<◌, ◌≤◌}
use Rattle.std.proofs.Common.{arith, zero-add, sym, ap, ◌∙◌, length-set, get_or-set_same, get_or-set_other}
use Rattle.std.specs.Prelude.{◌≡◌, refl, Bool, true, false, cond, not, ◌&&◌, ◌||◌, ◌≢◌, List, eqb, ltb, leb, get_or, set, length}
use borrow.Author.Tests.{eqb-true, eqb-false, ne_eqb, ltb-true, le-leb, lt-leb}
use Rattle.cells.specs.Proof.Split.{by-test}
use Rattle.cells.specs.Search.{any_from}
use Rattle.strings.specs.Lookup.{Looked}
use Rattle.elf_object.specs.Rows.{rows_in, mark_at, is_loaded, listed_at, comdat_at, count_at, link_at, info_at}
use Rattle.elf_object.specs.Judge.{first_bad}
use Rattle.section_groups.specs.Group.{Plan}
use Rattle.section_groups.specs.Group as Group
use Rattle.section_groups.specs.Group.{listed_in, is_fresh, all_fresh, shape_of, signature_of, plan_of, mark_group_of, mark_one, mark_from, mark_all, commit_group_of, decided_of, group_named, signed_of, shaped_of, group_of, group_section_of}
use Rattle.merge_stages.specs.Stages.{All, Object}
use Rattle.merge_elf.specs.Merge.{head_in}
use Rattle.symbol_laws.specs.ObjectWords.{loaded_as, group}
use Rattle.merge_laws.proofs.Loop.{loop, loop-going, loop-next}
use Rattle.merge_laws.specs.MergeSteps.{group_first}
use Rattle.merge_laws.specs.GroupStage.{number_of}
use Rattle.merge_laws.proofs.GroupStageLemmas.{groups-loop}
use Rattle.merge_laws.proofs.GroupMarks.{one-length}
use Rattle.merge_laws.proofs.WorkRows.{loaded-same}
use Rattle.merge_laws.proofs.WorkNotes.{done-cell}
use Rattle.merge_laws.proofs.WorkGroups.{few-rows, noted, untabled, prepared-long, group-long}
use Rattle.merge_laws.specs.MergeWords.{is_listed, is_listed_below, lists_again}
use Rattle.merge_laws.specs.FirstKept.{reader, listed}
use Rattle.merge_laws.specs.Stops.{reserved, prepared, groups_to}

-- ---- the cells of a list of sections

module _ (xs : List ℕ) (m : ℕ) where
  abbrev in_from : ℕ → ℕ → Bool
  in_from i k = any_from (λ j. eqb (get_or xs j 0) m) i k

  one-listed : (b : Bool) (x : ℕ) (w : List ℕ) → m < length w / 8 → listed_at (mark_one w b x) m ≡ cond (eqb x m) 1 (listed_at w m)
  unfolding mark_one
  one-listed b x w h =
      by-test (eqb x m)
      (λ c. let e : x ≡ m = eqb-true _ _ c in rw c (rw e (get_or-set_same (before b m) (m * 8 + 3) 1 0 (omega (arith, long b m, h)))))
      (λ c. let u : x ≢ m = eqb-false _ _ c in rw c (get_or-set_other (before b x) (x * 8 + 3) (m * 8 + 3) 1 0 (λ e. u (omega arith)) ∙ other b x))
    where
      before : Bool → ℕ → List ℕ
      before b x = cond b (set w (x * 8 + 1) 2) w

      long : (b : Bool) (x : ℕ) → length (before b x) ≡ length w
      long true x = length-set w (x * 8 + 1) 2
      long false x = refl

      other : (b : Bool) (x : ℕ) → get_or (before b x) (m * 8 + 3) 0 ≡ get_or w (m * 8 + 3) 0
      other true x = get_or-set_other w (x * 8 + 1) (m * 8 + 3) 2 0 (λ e. omega arith)
      other false x = refl

  later : (p q : Bool) (z : ℕ) → cond q 1 (cond p 1 z) ≡ cond (cond p true q) 1 z
  later true true z = refl
  later true false z = refl
  later false true z = refl
  later false false z = refl

  listed-from : (b : Bool) (k i : ℕ) (w : List ℕ) → m < length w / 8 → listed_at (mark_from b xs i k w) m ≡ cond (in_from i k) 1 (listed_at w m)
  unfolding mark_from any_from
  listed-from b zero i w h = refl
  listed-from b (suc k) i w h =
      listed-from b k (i + 1) (mark_one w b (get_or xs i 0)) (omega (arith, h, one-length w b (get_or xs i 0)))
      ∙ ap (λ (z : ℕ). cond (in_from (i + 1) k) 1 z) (one-listed b (get_or xs i 0) w h) ∙ later (eqb (get_or xs i 0) m) (in_from (i + 1) k) (listed_at w m)

-- ---- one section

group-kept : (w : List ℕ) (n m : ℕ) → listed_at (mark_group_of w n) m ≡ listed_at w m
unfolding mark_group_of
group-kept w n m = by-test (eqb (mark_at w n) 2) (λ t. rw t) (λ t. rw t (get_or-set_other w (n * 8 + 1) (m * 8 + 3) 1 0 (λ e. omega arith)))

marked-long : (w : List ℕ) (n : ℕ) → length (mark_group_of w n) ≡ length w
unfolding mark_group_of
marked-long w n = by-test (eqb (mark_at w n) 2) (λ t. rw t) (λ t. rw t (length-set w (n * 8 + 1) 1))

module _ (o : Group.Object) (s : Group.Step) (n : ℕ) where
  pub section-long : length (group_section_of o s n).work ≡ length s.work
  unfolding group_section_of group_of shaped_of signed_of group_named decided_of commit_group_of
  section-long =
      let x : Looked = signature_of o.headers o.entries o.image o.table n in
      let k : List ℕ = listed_in o n in
      let q : Plan = plan_of s.stage.link s.bytes s.names (length s.work / 8) x.name k in
      by-test (is_loaded o.headers n 7)
      (λ a.
      by-test (eqb (shape_of o s.work n) 0)
      (λ b. by-test x.found (λ c. by-test (eqb q.number 0) (λ d. rw (a, b, c, d) (group-long s.work q.repeated n k)) (λ d. rw (a, b, c, d))) (λ c. rw (a, b, c))) (λ b. rw (a, b)))
      (λ a. rw a)

  pub section-skipped : is_loaded o.headers n 7 ≡ false → (group_section_of o s n).work ≡ s.work
  unfolding group_section_of
  section-skipped a = rw a

  pub section-listed : (m : ℕ) → is_loaded o.headers n 7 ≡ true → (group_section_of o s n).stage.number ≡ 0 → m < length s.work / 8
      → listed_at (group_section_of o s n).work m ≡ cond (is_listed m (listed_in o n)) 1 (listed_at s.work m)
  unfolding group_section_of group_of shaped_of signed_of group_named decided_of commit_group_of
  section-listed m a z h =
      let x : Looked = signature_of o.headers o.entries o.image o.table n in
      let k : List ℕ = listed_in o n in
      let q : Plan = plan_of s.stage.link s.bytes s.names (length s.work / 8) x.name k in
      by-test (eqb (shape_of o s.work n) 0)
      (λ b.
      by-test x.found
      (λ c.
      by-test (eqb q.number 0)
      (λ d.
      rw (a, b, c, d)
      (listed-from k m q.repeated (length k) 0 (mark_group_of s.work n) (omega (arith, h, long))
      ∙ ap (λ (y : ℕ). cond (is_listed m k) 1 y) (group-kept s.work n m)))
      (λ d. absurd (eqb-false _ _ d (rw (a, b, c, d) at z))))
      (λ c. let e : ◌≡◌ {A = ℕ} 7 0 = rw (a, b, c) at z in absurd (omega arith)))
      (λ b. absurd (eqb-false _ _ b (rw (a, b) at z)))
    where
      long : length (mark_group_of s.work n) ≡ length s.work
      long = marked-long s.work n

-- ---- the groups of an object, up to section n

module _ (o : Object) (a : All) (head : (head_in o a).number ≡ 0) (goes : (reserved o a).reserved.number ≡ 0) where
  abbrev headers : List ℕ
  headers = o.headers

  abbrev rows : ℕ
  rows = rows_in headers

  abbrev first : Group.Step
  first = group_first (prepared o a)

  abbrev next : Group.Step → ℕ → Group.Step
  next = group_section_of (reader o a)

  clean : (m : ℕ) → m < rows → listed_at (prepared o a).work m ≡ 0
  clean m h =
      done-cell headers o.entries (few-rows o a head goes) (reserved o a).work (noted o a head goes).room (untabled o a head goes) m h 3 (omega arith) (λ e. omega arith)
      ∙ (noted o a head goes).clean m 3 h (omega arith) (omega arith)

  module _ (n : ℕ) (low : n ≤ rows) (ok : (groups_to o a n).stage.number ≡ 0) where
    up-to : (k : ℕ) → k ≤ n → (groups_to o a k).stage.number ≡ 0
    up-to k h = ap number_of (groups-loop (reader o a) k 0 first) ∙ loop-going number_of next n 0 k first refl (ap number_of (sym (groups-loop (reader o a) n 0 first)) ∙ ok) h

    one-on : (k : ℕ) → k < n → groups_to o a (suc k) ≡ next (groups_to o a k) k
    one-on k h =
        let e : groups_to o a k ≡ loop number_of next k 0 first = groups-loop (reader o a) k 0 first in
        groups-loop (reader o a) (suc k) 0 first ∙ loop-next number_of next k 0 first (ap number_of (sym e) ∙ up-to k (omega arith))
        ∙ ap (λ (j : ℕ). next (loop number_of next k 0 first) j) (zero-add k) ∙ ap (λ (s : Group.Step). next s k) (sym e)

    room : (k : ℕ) → k ≤ n → rows ≤ length (groups_to o a k).work / 8
    unfolding Group.groups_from
    room zero h = prepared-long o a head goes
    room (suc k) h = omega (arith, room k (omega arith), ap (λ (s : Group.Step). length s.work) (one-on k (omega arith)) ∙ section-long (reader o a) (groups_to o a k) k)

    listed-to : (k : ℕ) → k ≤ n → (m : ℕ) → m < rows → listed_at (groups_to o a k).work m ≡ cond (is_listed_below headers o.entries o.contents o.image k m) 1 0
    unfolding is_listed_below Group.groups_from
    listed-to zero h m g = clean m g
    listed-to (suc k) h m g =
        let before = listed-to k (omega arith) m g in
        ap (λ (s : Group.Step). listed_at s.work m) (one-on k (omega arith))
        ∙ by-test (loaded_as headers k group)
        (λ t.
        let l : is_loaded headers k 7 ≡ true = loaded-same headers k 7 ∙ t in
        rw t
        (section-listed (reader o a) (groups_to o a k) k m l (ap number_of (sym (one-on k (omega arith))) ∙ up-to (suc k) h) (omega (arith, room k (omega arith)))
        ∙ ap (λ (y : ℕ). cond (is_listed m (listed o a k)) 1 y) before ∙ either (is_listed m (listed o a k)) (is_listed_below headers o.entries o.contents o.image k m)))
        (λ t. rw t (ap (λ (w : List ℕ). listed_at w m) (section-skipped (reader o a) (groups_to o a k) k (loaded-same headers k 7 ∙ t)) ∙ before ∙ none (is_listed_below headers o.entries o.contents o.image k m)))
      where
        either : (p q : Bool) → ◌≡◌ {A = ℕ} (cond p 1 (cond q 1 0)) (cond (q || p) 1 0)
        either true true = refl
        either true false = refl
        either false true = refl
        either false false = refl

        none : (q : Bool) → ◌≡◌ {A = ℕ} (cond q 1 0) (cond (q || false) 1 0)
        none true = refl
        none false = refl

    -- what the group at section n asks is what it says: that it lists a section again
    abbrev xs : List ℕ
    xs = listed o a n

    abbrev again : ℕ → Bool
    again i = ltb (get_or xs i 0) rows && is_listed_below headers o.entries o.contents o.image n (get_or xs i 0)

    fresh-is : (i : ℕ) → is_fresh (groups_to o a n).work rows (get_or xs i 0) ≡ not (again i)
    unfolding is_fresh
    fresh-is i =
        by-test (ltb (get_or xs i 0) rows)
        (λ t. rw t (rw (listed-to n (omega arith) (get_or xs i 0) (ltb-true (get_or xs i 0) rows t)) (one (is_listed_below headers o.entries o.contents o.image n (get_or xs i 0)))))
        (λ t. rw t)
      where
        one : (q : Bool) → not (eqb (cond q 1 0) 1) ≡ not q
        one true = refl
        one false = refl

    first-is : (k i : ℕ) → leb (i + k) (first_bad (λ j. is_fresh (groups_to o a n).work rows (get_or xs j 0)) i k) ≡ not (any_from again i k)
    unfolding first_bad any_from
    first-is zero i = le-leb (i + 0) i (omega arith)
    first-is (suc k) i =
        rw (fresh-is i)
        (by-test (again i) (λ t. rw t (lt-leb (i + suc k) i (omega arith)))
        (λ t. let z : i + suc k ≡ i + 1 + k = omega arith in rw t (ap (λ (y : ℕ). leb y (first_bad (λ j. is_fresh (groups_to o a n).work rows (get_or xs j 0)) (i + 1) k)) z ∙ first-is k (i + 1))))

    pub fresh-exactly : all_fresh (groups_to o a n).work rows xs ≡ not (lists_again headers o.entries o.contents o.image n)
    unfolding all_fresh
    fresh-exactly = ap (λ (y : ℕ). leb y (first_bad (λ j. is_fresh (groups_to o a n).work rows (get_or xs j 0)) 0 (length xs))) (sym (zero-add (length xs))) ∙ first-is (length xs) 0

    -- 4, 5, and then 29 exactly where a section is listed again
    pub listed-twice : comdat_at headers n ≢ 0 → count_at headers n ≢ 0 → lists_again headers o.entries o.contents o.image n ≡ true → shape_of (reader o a) (groups_to o a n).work n ≡ 29
    unfolding shape_of
    listed-twice c e t = rw (ne_eqb (comdat_at headers n) 0 c, ne_eqb (count_at headers n) 0 e, fresh-exactly, t)

    pub listed-once : lists_again headers o.entries o.contents o.image n ≡ false → shape_of (reader o a) (groups_to o a n).work n ≢ 29
    unfolding shape_of
    listed-once t =
        by-test (eqb (comdat_at headers n) 0) (λ c. rw c (λ z. omega arith))
        (λ c.
        by-test (eqb (count_at headers n) 0) (λ b. rw (c, b) (λ z. omega arith))
        (λ b. rw (c, b, fresh-exactly, t) (rest (eqb (link_at headers n) (reader o a).table) (leb (rows_in (reader o a).entries) (info_at headers n)))))
      where
        rest : (p q : Bool) → ◌≢◌ {A = ℕ} (cond p (cond q 6 0) 6) 29
        rest true true z = omega arith
        rest true false z = omega arith
        rest false q z = omega arith
