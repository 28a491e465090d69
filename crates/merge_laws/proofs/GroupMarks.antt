-- A group's sections are removed exactly where its signature was met before.
-- Assumes nothing.
use Prim.Native.Nat.{ℕ, zero, suc, ◌+◌, ◌*◌, ◌/◌, ◌<◌, ◌≤◌}
use Rattle.std.proofs.Common.{arith, sym, ◌∙◌, length-set, length-append}
use Rattle.std.proofs.Math.Path.{◌≡◌, ap}
use Rattle.std.specs.Prelude.{refl, Bool, false, not, eqb, leb, ltb, get_or}
use Rattle.std.proofs.Math.Bool.{true, cond}
use mathlib.Core.List.{List, [], ◌∷◌, ◌++◌}
use Rattle.std.proofs.Math.ListN.{set, length}
use Rattle.std.proofs.Math.Decide.{ℕ_discrete}
use Rattle.std.proofs.Math.ListN.{get_or-eq_default}
use Rattle.std.proofs.Math.Seq.{get_or-set_other, get_or-set_same, get_or-append_seam, take-append_seam}
use borrow.Author.Tests.{eqb-false, eq-eqb, leb-true, leb-false, lt-ltb, ltb-true, ltb-false}
use Rattle.cells.specs.Proof.Split.{by-test}
use Rattle.gabi.specs.StringTable.{among}
use Rattle.gabi.specs.Groups as Gabi
use Rattle.strings.specs.Lookup.{Looked}
use Rattle.interner_laws.specs.Good.{find}
use Rattle.interner_laws.proofs.Find.{found}
use Rattle.interner_laws.proofs.Interns.{keep-issued}
use Rattle.interner.specs.Names.{store_of, fits_of}
use Rattle.elf_object.specs.Rows.{is_loaded, mark_at}
use Rattle.elf_object.specs.Judge.{first_bad}
use Rattle.section_groups.specs.Group.{Plan}
use Rattle.section_groups.specs.Group.{Object, listed_in, each, all_marked, shape_of, signature_of, repeated_of, mark_refusal, plan_with, plan_of, mark_group_of, mark_one, mark_from, mark_all, commit_group_of, decided_of, group_named, signed_of, shaped_of, group_of, group_section_of}
use Rattle.section_groups.specs.Group as Group
use Rattle.symbol_laws.specs.History.{State, store}
use Rattle.merge_laws.proofs.GroupStage.{table_in, plan-repeated, section-makes}
use Rattle.merge_laws.specs.MergeSteps.{signed_steps, group_section_steps}
use Rattle.merge_laws.specs.Marked.{marks_of, Marked}

-- ---- the gABI's choice, in a list of signatures

-- the signature after those met is kept where it isn't one of them, whatever follows
pub kept_new : (met : List (List ℕ)) (x : List ℕ) (later : List (List ℕ)) → Gabi.kept (met ++ x ∷ later) (length met) ≡ not (among x met)
unfolding Gabi.kept
kept_new met x later =
    rw (
      lt-ltb (length met) (length (met ++ x ∷ later)) (omega (arith, length-append met (x ∷ later))),
      get_or-append_seam met x later [],
      take-append_seam met (x ∷ later),
    )

-- ---- the sections that a group lists

first-holds : (f : ℕ → Bool) (n k i : ℕ) → k ≤ i → i < k + n → k + n ≤ first_bad f k n → f i ≡ true
unfolding first_bad
first-holds f zero k i a b e = absurd (omega arith)
first-holds f (suc n) k i a b e = go (f k) refl e (ℕ_discrete i k) (λ h g. first-holds f n (k + 1) i h (omega arith) g)
  where
    go : (t : Bool) → f k ≡ t → k + suc n ≤ cond t (first_bad f (k + 1) n) k → Dec (i ≡ k) → (k + 1 ≤ i → k + 1 + n ≤ first_bad f (k + 1) n → f i ≡ true) → f i ≡ true
    go false q g d r = absurd (omega arith)
    go true q g (yes d) r = rw d q
    go true q g (no d) r = r (omega arith) (omega arith)

pub each-holds : (f : ℕ → Bool) (xs : List ℕ) (i : ℕ) → i < length xs → each f xs ≡ true → f (get_or xs i 0) ≡ true
each-holds f xs i h e = first-holds (λ j. f (get_or xs j 0)) (length xs) 0 i (omega arith) (omega arith) (omega (arith, leb-true _ _ e))

-- a removed one stays so
pub one-stays : (work : List ℕ) (b : Bool) (k m : ℕ) → mark_at work m ≡ 2 → mark_at (mark_one work b k) m ≡ 2
unfolding mark_one
one-stays work false k m e = get_or-set_other work (k * 8 + 3) (m * 8 + 1) 1 0 (λ q. omega arith) ∙ e
one-stays work true k m e =
    get_or-set_other (set work (k * 8 + 1) 2) (k * 8 + 3) (m * 8 + 1) 1 0 (λ q. omega arith) ∙ go (ℕ_discrete m k)
  where
    lent : m * 8 + 1 < length work
    lent = by-test (ltb (m * 8 + 1) (length work)) (λ a. ltb-true _ _ a) (λ a. let z : mark_at work m ≡ 0 = get_or-eq_default work 0 {n = m * 8 + 1} (ltb-false _ _ a) in absurd (omega (arith, e, z)))

    go : Dec (m ≡ k) → get_or (set work (k * 8 + 1) 2) (m * 8 + 1) 0 ≡ 2
    go (yes q) = rw (← q) (get_or-set_same work (m * 8 + 1) 2 0 lent)
    go (no q) = get_or-set_other work (k * 8 + 1) (m * 8 + 1) 2 0 (λ z. q (omega arith)) ∙ e

pub all-stay : (b : Bool) (xs : List ℕ) (m n k : ℕ) (work : List ℕ) → mark_at work m ≡ 2 → mark_at (mark_from b xs k n work) m ≡ 2
unfolding mark_from
all-stay b xs m zero k work e = e
all-stay b xs m (suc n) k work e = all-stay b xs m n (k + 1) (mark_one work b (get_or xs k 0)) (one-stays work b (get_or xs k 0) m e)

pub one-length : (work : List ℕ) (b : Bool) (x : ℕ) → length (mark_one work b x) ≡ length work
unfolding mark_one
one-length work true x = length-set (set work (x * 8 + 1) 2) (x * 8 + 3) 1 ∙ length-set work (x * 8 + 1) 2
one-length work false x = length-set work (x * 8 + 3) 1

-- each of them is removed
pub all-removed : (xs : List ℕ) (i n k : ℕ) (work : List ℕ) → k ≤ i → i < k + n → get_or xs i 0 < length work / 8 → mark_at (mark_from true xs k n work) (get_or xs i 0) ≡ 2
unfolding mark_from mark_one
all-removed xs i zero k work a b h = absurd (omega arith)
all-removed xs i (suc n) k work a b h =
    go (ℕ_discrete i k) (λ u. all-removed xs i n (k + 1) (mark_one work true (get_or xs k 0)) u (omega arith) (omega (arith, one-length work true (get_or xs k 0), h)))
  where
    go : Dec (i ≡ k) → (k + 1 ≤ i → mark_at (mark_from true xs (k + 1) n (mark_one work true (get_or xs k 0))) (get_or xs i 0) ≡ 2)
        → mark_at (mark_from true xs (k + 1) n (mark_one work true (get_or xs k 0))) (get_or xs i 0) ≡ 2
    go (yes d) r =
        rw d
        (all-stay true xs (get_or xs k 0) n (k + 1) (mark_one work true (get_or xs k 0))
        (get_or-set_other (set work (get_or xs k 0 * 8 + 1) 2) (get_or xs k 0 * 8 + 3) (get_or xs k 0 * 8 + 1) 1 0 (λ q. omega arith)
        ∙ get_or-set_same work (get_or xs k 0 * 8 + 1) 2 0 (let g : get_or xs k 0 < length work / 8 = rw d at h in omega arith)))
    go (no d) r = r (omega arith)

-- ---- one group

repeated-met : (s : State) (met : List (List ℕ)) → Marked s met → (x : List ℕ) → repeated_of s.names s.link.names (find (store s) x) ≡ among x met
unfolding repeated_of
repeated-met s met m x =
    by-test (leb s.link.names (find (store s) x))
    (λ a.
    rw a
    (sym (by-test (among x met) (λ b. let h = m.known x b in let k = leb-true s.link.names (find (store s) x) a in absurd (omega arith)) (λ b. b))))
    (λ a.
    let h : find (store s) x < s.link.names = leb-false _ _ a in
    let e : eqb (get_or s.names (Group.signature_cell (find (store s) x)) 0) 1 ≡ among x met =
    m.marks (find (store s) x) h ∙ ap (λ (y : List ℕ). among y met) ((found (store s) x m.good.chained).hit h) in
    rw (a, e) (same (among x met)))
  where
    same : (b : Bool) → cond b true false ≡ b
    same true = refl
    same false = refl

module _ (symbols sections : List ℕ) (o : Object) (s : Group.Step) (met : List (List ℕ)) (m : Marked (table_in symbols sections s) met) (n : ℕ)
    (group : is_loaded o.headers n 7 ≡ true) (accepted : (group_section_of o s n).stage.number ≡ 0) where
  abbrev signature : List ℕ
  signature = (signature_of o.headers o.entries o.image o.table n).name

  abbrev listed : List ℕ
  listed = listed_in o n

  pub group-marks : (group_section_of o s n).work ≡ mark_all (mark_group_of s.work n) (among signature met) listed
  unfolding group_section_of group_of shaped_of signed_of group_named decided_of commit_group_of
  group-marks =
      let x : Looked = signature_of o.headers o.entries o.image o.table n in
      let q : Plan = plan_of s.stage.link s.bytes s.names (length s.work / 8) x.name listed in
      let e : q.repeated ≡ among x.name met =
      plan-repeated s.stage.link s.bytes s.names (length s.work / 8) x.name listed
      ∙ repeated-met (table_in symbols sections s) met m x.name in
      by-test (eqb (shape_of o s.work n) 0)
      (λ b.
      by-test x.found
      (λ c.
      by-test (eqb q.number 0) (λ d. rw (group, b, c, d) (ap (λ (r : Bool). mark_all (mark_group_of s.work n) r listed) e))
      (λ d. absurd (eqb-false _ _ d (rw (group, b, c, d) at accepted))))
      (λ c. let z : ◌≡◌ {A = ℕ} 7 0 = rw (group, b, c) at accepted in absurd (omega arith)))
      (λ b. absurd (eqb-false _ _ b (rw (group, b) at accepted)))

  -- a mark is lent for each section that is removed
  pub marks-lent : among signature met ≡ true → all_marked (length s.work / 8) listed ≡ true
  unfolding group_section_of group_of shaped_of signed_of group_named decided_of plan_of plan_with mark_refusal
  marks-lent r =
      let x : Looked = signature_of o.headers o.entries o.image o.table n in
      let e : repeated_of s.names s.stage.link.names (find (store (table_in symbols sections s)) x.name) ≡ true = repeated-met (table_in symbols sections s) met m x.name ∙ r in
      by-test (all_marked (length s.work / 8) listed) (λ a. a)
      (λ a.
      by-test (eqb (shape_of o s.work n) 0)
      (λ b.
      by-test x.found
      (λ c.
      by-test (fits_of (store_of s.bytes s.names s.stage.link) (record { 0 = find (store (table_in symbols sections s)) x.name }) (length x.name))
      (λ d. let z : ◌≡◌ {A = ℕ} 2 0 = rw (group, b, c, d, e, a) at accepted in absurd (omega arith))
      (λ d. let z : ◌≡◌ {A = ℕ} 2 0 = rw (group, b, c, d) at accepted in absurd (omega arith)))
      (λ c. let z : ◌≡◌ {A = ℕ} 7 0 = rw (group, b, c) at accepted in absurd (omega arith)))
      (λ b. absurd (eqb-false _ _ b (rw (group, b) at accepted))))

  -- each section of a repeated group is marked
  pub group-removes : among signature met ≡ true → (i : ℕ) → i < length listed → mark_at (group_section_of o s n).work (get_or listed i 0) ≡ 2
  unfolding mark_group_of all_marked
  group-removes r i h =
      let w : List ℕ = cond (eqb (mark_at s.work n) 2) s.work (set s.work (n * 8 + 1) 1) in
      let l : length w ≡ length s.work = by-test (eqb (mark_at s.work n) 2) (λ a. rw a) (λ a. rw a (length-set s.work (n * 8 + 1) 1)) in
      let low : get_or listed i 0 < length s.work / 8 = ltb-true _ _ (each-holds (λ x. ltb x (length s.work / 8)) listed i h (marks-lent r)) in
      let e : (group_section_of o s n).work ≡ mark_all w true listed = group-marks ∙ rw r in
      ap (λ (v : List ℕ). mark_at v (get_or listed i 0)) e ∙ all-removed listed i (length listed) 0 w (omega arith) (omega arith) (omega arith)

  -- its steps mark that signature
  pub group-signature : marks_of (group_section_steps o s n) (table_in symbols sections s) ≡ signature ∷ []
  unfolding group_section_steps signed_steps
  group-signature =
      let t : State = table_in symbols sections s in
      let go = (section-makes symbols sections o s n).accepted in
      let fits = rw (group, eq-eqb (group_section_of o s n).stage.number 0 accepted) at go in
      let e = (keep-issued (store t) signature m.good fits.0).right in
      rw (group, eq-eqb (group_section_of o s n).stage.number 0 accepted) (ap (λ (x : List ℕ). x ∷ []) e)
