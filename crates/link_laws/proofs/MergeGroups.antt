-- Of a merge's groups: each one's answer is that of its first rule that holds, over names as every link has them.
-- Assumes nothing.
use Rattle.std.specs.Prelude.{ℕ, zero, suc, ◌+◌, ◌/◌, ◌%◌, ◌<◌, ◌≡◌, refl, Bool, true, false, cond, not, ◌&&◌, ◌||◌, List, [], ◌∷◌, ◌++◌, eqb, ltb, leb, get_or, length}
use Rattle.std.proofs.Common.{arith, zero-add, sym, ◌∙◌, subst, eq-eqb, ltb-true}
use borrow.Author.Tests.{le-leb, lt-leb}
use Rattle.std.proofs.Math.Path.{ap}
use Rattle.cells.specs.Proof.Split.{by-test}
use Rattle.link.specs.declared.cause.Refusal.{Refusal}
use Rattle.link.specs.Judge.{refused}
use Rattle.interner.specs.Names.{find_of}
use Rattle.interner_laws.specs.Good.{Chained}
use Rattle.cells.specs.Search.{any_from}
use Rattle.elf_object.specs.Rows as Elf
use Rattle.elf_object.specs.Judge.{first_bad}
use Rattle.section_groups.specs.Group.{Plan}
use Rattle.section_groups.specs.Group as Group
use Rattle.section_groups.specs.Group.{is_fresh, each, all_fresh, all_marked, shape_of, signature_of, repeated_of, mark_refusal, plan_with, plan_of, decided_of, signed_of, shaped_of, group_of, group_section_of, groups_of}
use Rattle.symbol_laws.specs.History.{State, store}
use Rattle.merge_laws.specs.Marked.{Marked, marks_of}
use Rattle.merge_laws.proofs.MarkedLemmas.{steps-marked}
use Rattle.merge_laws.specs.MergeSteps.{group_section_steps}
use Rattle.merge_laws.proofs.GroupStage.{section-makes}
use Rattle.merge_laws.proofs.GroupStageLemmas.{groups-loop}
use Rattle.merge_laws.proofs.ListedTwice.{section-long, section-skipped, section-listed}
use Rattle.link_laws.specs.Rules.{some, in_turn, ◌gives◌at◌, first_refusal, numbered}
use Rattle.link_laws.proofs.Rules.{first-none, not-below}
use Rattle.link_laws.specs.TableRules.{is_among, bytes_of, is_unroomed, id_in, names_of}
use Rattle.link_laws.proofs.InternExactly.{among-found, fits-is}
use Rattle.link_laws.specs.ObjectRules.{cell_at, is_excluded, is_section}
use Rattle.link_laws.specs.GroupRules.{is_met, some_of, signature_found, signature, listed, lists_again, own_group_rules}
use Rattle.link_laws.specs.MergeRules.{lists, is_listed_before, group_rules}
use Rattle.link_laws.proofs.MergeExactly.{stage-exactly, excluded-is}
use Rattle.link_laws.proofs.MergeSymbols.{find-is, looked-found, looked-name}

-- ---- a test of each number of a list, and of some

module _ (f g : ℕ → Bool) (against : (i : ℕ) → f i ≡ not (g i)) where
  some-bad : (k i : ℕ) → leb (i + k) (first_bad f i k) ≡ not (some g i k)
  unfolding first_bad
  some-bad zero i = le-leb (i + 0) i (omega arith)
  some-bad (suc k) i =
      rw (against i)
      (by-test (g i) (λ t. rw t (lt-leb (i + suc k) i (omega arith)))
      (λ t. let z : i + suc k ≡ i + 1 + k = omega arith in rw t (ap (λ (y : ℕ). leb y (first_bad f (i + 1) k)) z ∙ some-bad k (i + 1))))

pub each-some : (f g : ℕ → Bool) → ((x : ℕ) → f x ≡ not (g x)) → (xs : List ℕ) → each f xs ≡ not (some_of g xs)
each-some f g against xs =
    ap (λ (y : ℕ). leb y (first_bad (λ i. f (get_or xs i 0)) 0 (length xs))) (sym (zero-add (length xs)))
    ∙ some-bad (λ i. f (get_or xs i 0)) (λ i. g (get_or xs i 0)) (λ i. against (get_or xs i 0)) (length xs) 0

marked-some : (marks : ℕ) (xs : List ℕ) → all_marked marks xs ≡ not (some_of (λ m. not (ltb m marks)) xs)
unfolding all_marked
marked-some marks xs = each-some (λ x. ltb x marks) (λ m. not (ltb m marks)) (λ x. twice (ltb x marks)) xs
  where
    twice : (b : Bool) → b ≡ not (not b)
    twice true = refl
    twice false = refl

pub fresh-some : (work : List ℕ) (sections : ℕ) (before : ℕ → Bool) (xs : List ℕ) → ((x : ℕ) → x < sections → eqb (cell_at work x 3) 1 ≡ before x)
    → all_fresh work sections xs ≡ not (some_of (λ m. ltb m sections && before m) xs)
unfolding all_fresh is_fresh
fresh-some work sections before xs told = each-some (is_fresh work sections) (λ m. ltb m sections && before m) one xs
  where
    one : (x : ℕ) → is_fresh work sections x ≡ not (ltb x sections && before x)
    one x = by-test (ltb x sections) (λ t. rw (t, told x (ltb-true x sections t))) (λ t. rw t)

pub any-some : (p : ℕ → Bool) (i k : ℕ) → any_from p i k ≡ some p i k
unfolding any_from
any-some p i zero = refl
any-some p i (suc k) = by-test (p i) (λ t. rw t) (λ t. rw t (any-some p (i + 1) k))

pub or_assoc : (a b c : Bool) → a || (b || c) ≡ a || b || c
or_assoc true b c = refl
or_assoc false b c = refl

pub some-last : (test : ℕ → Bool) (n i : ℕ) → some test i (suc n) ≡ some test i n || test (i + n)
some-last test zero i = let e : i ≡ i + 0 = omega arith in or-none (test i) ∙ ap test e
  where
    or-none : (b : Bool) → b || false ≡ b
    or-none true = refl
    or-none false = refl
some-last test (suc n) i =
    let e : i + 1 + n ≡ i + suc n = omega arith in
    ap (◌||◌ (test i)) (some-last test n (i + 1) ∙ ap (λ (k : ℕ). some test (i + 1) n || test k) e) ∙ or_assoc (test i) (some test (i + 1) n) (test (i + suc n))

abbrev pub group_said : Group.Step → Refusal
group_said s = refused s.stage.number s.stage.place

repeated-is : (t : State) → Chained (store t) → (x : List ℕ) → repeated_of t.names t.link.names (find_of t.bytes t.names t.link x) ≡ is_met t x
unfolding repeated_of
repeated-is t c x =
    rw (not-below (find_of t.bytes t.names t.link x) t.link.names, ← among-found t c x, find-is t c x)
    (by-test (is_among (bytes_of t) x 0 t.link.names) (λ a. rw a (by-test (eqb (cell_at t.names (id_in t x) 4) 1) (λ b. rw b) (λ b. rw b))) (λ a. rw a))

-- a loaded section, by its rules' word
pub loaded-is : (headers : List ℕ) (n kind : ℕ) → Elf.is_loaded headers n kind ≡ is_section headers n kind
unfolding Elf.is_loaded
loaded-is headers n kind =
    rw (not-below n (length headers / 8), excluded-is headers n)
    (by-test (ltb n (length headers / 8))
    (λ a. by-test (is_excluded headers n) (λ b. rw (a, b)) (λ b. by-test (eqb (cell_at headers n 0) kind) (λ d. rw (a, b, d)) (λ d. rw (a, b, d))))
    (λ a. rw a))

module _ (o : Group.Object) (s : Group.Step) (n : ℕ) (c : Chained (store (names_of s.bytes s.names s.stage.link))) where
  abbrev t : State
  t = names_of s.bytes s.names s.stage.link

  abbrev here : Group.State
  here = Group.state_of s.bytes s.names s.work s.stage.link

  -- one of the listed sections has no mark
  abbrev unmarked : Bool
  unmarked = some_of (λ m. not (ltb m (length s.work / 8))) (listed o n)

  decided-said : (x : List ℕ) (p : Plan) → group_said (decided_of here x n (listed o n) p) ≡ cond (eqb p.number 0) (refused 0 0) (refused p.number n)
  unfolding decided_of
  decided-said x p = by-test (eqb p.number 0) (λ e. rw e) (λ e. rw e)

  named-exactly : (x : List ℕ) → group_said (Group.group_named here x n (listed o n))
      ≡ first_refusal ((is_unroomed t x gives 2 at n) ∷ (is_met t x && unmarked gives 2 at n) ∷ [])
  unfolding Group.group_named plan_of plan_with mark_refusal
  named-exactly x =
      decided-said x (plan_of s.stage.link s.bytes s.names (length s.work / 8) x (listed o n))
      ∙ rw (fits-is t x c, repeated-is t c x, marked-some (length s.work / 8) (listed o n))
      (by-test (is_unroomed t x) (λ a. rw a)
      (λ a. rw a (by-test (is_met t x) (λ b. rw b (by-test unmarked (λ d. rw d) (λ d. rw d))) (λ b. rw b))))

  signed-exactly : group_said (signed_of o here n (signature_of o.headers o.entries o.image o.table n))
      ≡ first_refusal ((not (signature_found o n) gives 7 at n) ∷ (is_unroomed t (signature o n) gives 2 at n) ∷ (is_met t (signature o n) && unmarked gives 2 at n) ∷ [])
  unfolding signed_of signature_of
  signed-exactly =
      rw (looked-found o.headers o.image (cell_at o.headers o.table 3) (cell_at o.entries (cell_at o.headers n 4) 0))
      (by-test (signature_found o n)
      (λ e.
      rw (e, looked-name o.headers o.image (cell_at o.headers o.table 3) (cell_at o.entries (cell_at o.headers n 4) 0) e)
      (named-exactly (signature o n)))
      (λ e. rw e))

  -- told which sections are listed by groups before it
  module _ (before : ℕ → Bool) (told : (m : ℕ) → m < length o.headers / 8 → eqb (cell_at s.work m 3) 1 ≡ before m) where
    fresh-is : all_fresh s.work (length o.headers / 8) (listed o n) ≡ not (lists_again o n before)
    fresh-is = fresh-some s.work (length o.headers / 8) before (listed o n) told

    pub group-exactly : group_said (group_of o here n) ≡ first_refusal (own_group_rules o n before t (length s.work / 8))
    unfolding group_of shaped_of shape_of
    group-exactly =
        rw (not-below (cell_at o.headers n 4) (length o.entries / 8), fresh-is)
        (by-test (eqb (cell_at o.headers n 2 / 8 % 2) 0) (λ a. rw a)
        (λ a.
        by-test (eqb (cell_at o.headers n 6) 0) (λ b. rw (a, b))
        (λ b.
        by-test (lists_again o n before) (λ f. rw (a, b, f))
        (λ f.
        by-test (eqb (cell_at o.headers n 3) o.table)
        (λ d. by-test (ltb (cell_at o.headers n 4) (length o.entries / 8)) (λ e. rw (a, b, f, d, e) signed-exactly) (λ e. rw (a, b, f, d, e)))
        (λ d. rw (a, b, f, d))))))

  section-exactly : ((m : ℕ) → m < length o.headers / 8 → eqb (cell_at s.work m 3) 1 ≡ is_listed_before o n m) → group_said s ≡ refused 0 0
      → group_said (group_section_of o s n) ≡ first_refusal (group_rules o s n)
  unfolding group_section_of Elf.is_loaded
  section-exactly told z =
      rw (not-below n (length o.headers / 8), excluded-is o.headers n)
      (by-test (ltb n (length o.headers / 8))
      (λ a.
      by-test (is_excluded o.headers n) (λ b. rw (a, b) z)
      (λ b. by-test (eqb (cell_at o.headers n 0) 7) (λ d. rw (a, b, d) (group-exactly (is_listed_before o n) told)) (λ d. rw (a, b, d) z)))
      (λ a. rw a z))

-- ---- all of them

module _ (o : Group.Object) where
  -- each of the object's sections has a row, and says there whether a group before section n lists it
  pub record Notes (s : Group.Step) (n : ℕ) : Type 0 where
    pub room : (m : ℕ) → m < length o.headers / 8 → m < length s.work / 8
    pub says : (m : ℕ) → m < length o.headers / 8 → cell_at s.work m 3 ≡ cond (is_listed_before o n m) 1 0

  pub record Named (s : Group.Step) (n : ℕ) : Type 0 where
    pub quiet : group_said s ≡ refused 0 0
    pub met : List (List ℕ)
    pub marked : Marked (names_of s.bytes s.names s.stage.link) met
    pub notes : Notes s n

  pub group-rules-numbered : (s : Group.Step) (n : ℕ) → numbered (group_rules o s n) ≡ true
  group-rules-numbered s n = by-test (is_section o.headers n 7) (λ e. rw e) (λ e. rw e)

  one : (s : Group.Step) (n : ℕ) → Named s n → group_said (group_section_of o s n) ≡ first_refusal (group_rules o s n)
  one s n h =
      section-exactly o s n h.marked.good.chained (λ m l. ap (λ (x : ℕ). eqb x 1) (h.notes.says m l) ∙ told (is_listed_before o n m)) h.quiet
    where
      told : (b : Bool) → eqb (cond b 1 0) 1 ≡ b
      told true = refl
      told false = refl

  notes-next : (s : Group.Step) (n : ℕ) → Notes s n → (group_section_of o s n).stage.number ≡ 0 → Notes (group_section_of o s n) (n + 1)
  notes-next s n h z =
      record { room = λ m l. omega (arith, h.room m l, section-long o s n); says = λ m l. next m l ∙ ap (λ (b : Bool). cond b 1 0) (sym (last m)) }
    where
      last : (m : ℕ) → is_listed_before o (n + 1) m ≡ is_listed_before o n m || lists o n m
      last m =
          let e : n + 1 ≡ suc n = omega arith in
          ap (λ (k : ℕ). is_listed_before o k m) e ∙ some-last (λ g. lists o g m) n 0 ∙ ap (λ (k : ℕ). is_listed_before o n m || lists o k m) (zero-add n)

      either : (p q : Bool) → ◌≡◌ {A = ℕ} (cond p 1 (cond q 1 0)) (cond (q || p) 1 0)
      either true true = refl
      either true false = refl
      either false true = refl
      either false false = refl

      none : (q : Bool) → ◌≡◌ {A = ℕ} (cond q 1 0) (cond (q || false) 1 0)
      none true = refl
      none false = refl

      next : (m : ℕ) → m < length o.headers / 8 → cell_at (group_section_of o s n).work m 3 ≡ cond (is_listed_before o n m || lists o n m) 1 0
      next m l =
          by-test (is_section o.headers n 7)
          (λ a.
          rw a
          (section-listed o s n m (loaded-is o.headers n 7 ∙ a) z (h.room m l)
          ∙ ap (λ (b : Bool). cond b 1 (cell_at s.work m 3)) (any-some (λ i. eqb (get_or (listed o n) i 0) m) 0 (length (listed o n)))
          ∙ ap (λ (x : ℕ). cond (some_of (λ x. eqb x m) (listed o n)) 1 x) (h.says m l)
          ∙ either (some_of (λ x. eqb x m) (listed o n)) (is_listed_before o n m)))
          (λ a.
          rw a
          (ap (λ (w : List ℕ). cell_at w m 3) (section-skipped o s n (loaded-is o.headers n 7 ∙ a)) ∙ h.says m l ∙ none (is_listed_before o n m)))

  stays : (s : Group.Step) (n : ℕ) → Named s n → (group_said (group_section_of o s n)).number ≡ 0 → Named (group_section_of o s n) (n + 1)
  stays s n h z =
      let m = section-makes [] [] o s n in
      let e = one s n h in
      record {
        quiet = e ∙ first-none (group_rules o s n) (group-rules-numbered s n) (ap (λ (r : Refusal). eqb r.number 0) (sym e) ∙ eq-eqb _ _ z);
        met = h.met ++ marks_of (group_section_steps o s n) (names_of s.bytes s.names s.stage.link);
        marked =
            subst (λ (t : State). Marked t (h.met ++ marks_of (group_section_steps o s n) (names_of s.bytes s.names s.stage.link))) m.leads
            (steps-marked (group_section_steps o s n) (names_of s.bytes s.names s.stage.link) h.met m.accepted h.marked);
        notes = notes-next s n h.notes z;
      }

  pub groups-exactly : (s : Group.Step) → Named s 0 → group_said (groups_of o s) ≡ first_refusal (in_turn (group_rules o) (group_section_of o) (length o.headers / 8) 0 s)
  unfolding groups_of
  groups-exactly s h =
      ap group_said (groups-loop o (length o.headers / 8) 0 s)
      ∙ stage-exactly (group_rules o) (group_section_of o) group_said Named group-rules-numbered one stays (length o.headers / 8) 0 s h h.quiet
