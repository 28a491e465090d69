-- A section that a repeated group lists: its mark stands until the end of the merge, so it isn't built, and no symbol is defined there.
-- Assumes nothing.
use Prim.Native.Nat.{ℕ, ◌+◌, ◌*◌, ◌/◌, ◌<◌}
use Rattle.std.proofs.Common.{arith, zero-add, sym, ap, ◌∙◌, get_or-set_other}
use Rattle.std.specs.Prelude.{◌≡◌, true, false, List, ◌∷◌, ◌++◌, eqb, get_or, length}
use Rattle.std.proofs.Math.Path.{refl}
use Rattle.std.proofs.lemmas.Bool.{false≢true}
use borrow.Author.Tests.{eqb-true, eqb-false, lt-ltb}
use Rattle.cells.specs.Proof.Split.{by-test}
use Rattle.gabi.specs.StringTable.{among}
use Rattle.gabi.specs.Groups as Gabi
use Rattle.strings.specs.Lookup.{Looked}
use Rattle.elf_object.specs.Rows.{rows_in, is_loaded, mark_at}
use Rattle.section_groups.specs.Group.{Plan}
use Rattle.section_groups.specs.Group as Group
use Rattle.section_groups.specs.Group.{listed_in, shape_of, signature_of, plan_of, mark_group_of, commit_group_of, decided_of, group_named, signed_of, shaped_of, group_of, group_section_of, groups_of}
use Rattle.section_groups.specs.Filter.{section_after}
use Rattle.merge_build.specs.Build.{built_from, section_of}
use Rattle.merge_stages.specs.Stages.{All, Object}
use Rattle.merge_elf.specs.Merge.{head_in, ended_as, finished_of, merge_of}
use Rattle.merge_laws.proofs.Loop.{loop, loop-later}
use Rattle.merge_laws.specs.MergeSteps.{group_first}
use Rattle.merge_laws.specs.GroupStage.{number_of}
use Rattle.merge_laws.proofs.GroupStageLemmas.{groups-loop}
use Rattle.merge_laws.specs.Whole.{table_in}
use Rattle.merge_laws.specs.Stops.{reserved, prepared, grouped, marked, groups_to, number}
use Rattle.merge_laws.proofs.Stops.{sections-stop, sections-pass, groups-stop}
use Rattle.merge_laws.specs.Marked.{Marked}
use Rattle.merge_laws.proofs.GroupMarks.{kept_new, all-stay, group-removes}
use Rattle.merge_laws.specs.FirstKept.{reader, signature, listed, met_to}
use Rattle.merge_laws.proofs.FirstKept.{to-marked}
use Rattle.merge_laws.specs.Discarded.{Discarded}

-- ---- no later group takes a mark back

group-stays : (work : List ℕ) (n m : ℕ) → mark_at work m ≡ 2 → mark_at (mark_group_of work n) m ≡ 2
unfolding mark_group_of
group-stays work n m e =
    by-test (eqb (mark_at work n) 2) (λ a. rw a e)
    (λ a. rw a (get_or-set_other work (n * 8 + 1) (m * 8 + 1) 1 0 (λ q. eqb-false _ _ a (other (omega arith))) ∙ e))
  where
    other : m ≡ n → mark_at work n ≡ 2
    other q = ap (mark_at work) (sym q) ∙ e

mark-stays : (o : Group.Object) (m : ℕ) (s : Group.Step) (n : ℕ) → mark_at s.work m ≡ 2 → mark_at (group_section_of o s n).work m ≡ 2
unfolding group_section_of group_of shaped_of signed_of group_named decided_of commit_group_of
mark-stays o m s n e =
    let x : Looked = signature_of o.headers o.entries o.image o.table n in
    let k : List ℕ = listed_in o n in
    let p : Plan = plan_of s.stage.link s.bytes s.names (length s.work / 8) x.name k in
    by-test (is_loaded o.headers n 7)
    (λ a.
    by-test (eqb (shape_of o s.work n) 0)
    (λ b.
    by-test x.found
    (λ c.
    by-test (eqb p.number 0) (λ d. rw (a, b, c, d) (all-stay p.repeated k m (length k) 0 (mark_group_of s.work n) (group-stays s.work n m e)))
    (λ d. rw (a, b, c, d) e))
    (λ c. rw (a, b, c) e))
    (λ b. rw (a, b) e))
    (λ a. rw a e)

module _ (o : Object) (a : All) where
  -- ---- what becomes of section m of the object, behind its groups

  discarded-by : (m : ℕ) → mark_at (marked o a).work m ≡ 2 → Discarded o a m
  unfolding section_of built_from section_after
  discarded-by m e =
      record {
        mark = e;
        unbuilt = λ s kind. by-test (is_loaded o.headers m kind) (λ l. rw (l, e)) (λ l. rw l);
        undefined = λ i f h. rw (f, lt-ltb m 0xff00 h, e);
      }

  module _ (met : List (List ℕ)) (known : Marked (table_in a) met) where
    -- of the accepted groups of a merge one that the gABI doesn't keep
    pub repeated-discarded : (grouped o a).stage.number ≡ 0 → (n : ℕ) → n < rows_in o.headers → is_loaded (reader o a).headers n 7 ≡ true → (later : List (List ℕ))
        → Gabi.kept (met_to o a met n ++ signature o a n ∷ later) (length (met_to o a met n)) ≡ false
        → (i : ℕ) → i < length (listed o a n) → Discarded o a (get_or (listed o a n) i 0)
    unfolding groups_of
    repeated-discarded z n h g later k i low =
        discarded-by x
        (rw whole
        (loop-later number_of next (λ (s : Group.Step). mark_at s.work x ≡ 2) (λ s i e. mark-stays (reader o a) x s i e) (rows_in o.headers) 0 n first refl
        (ap number_of (sym whole) ∙ z) h (λ c d. rw (zero-add n) (rw (← upto) (here (step d))))))
      where
        x : ℕ
        x = get_or (listed o a n) i 0

        next : Group.Step → ℕ → Group.Step
        next = group_section_of (reader o a)

        first : Group.Step
        first = group_first (prepared o a)

        whole : grouped o a ≡ loop number_of next (rows_in o.headers) 0 first
        whole = groups-loop (reader o a) (rows_in o.headers) 0 first

        upto : groups_to o a n ≡ loop number_of next n 0 first
        upto = groups-loop (reader o a) n 0 first

        again : among (signature o a n) (met_to o a met n) ≡ true
        again = by-test (among (signature o a n) (met_to o a met n)) (λ t. t) (λ t. absurd (false≢true (sym k ∙ kept_new (met_to o a met n) (signature o a n) later ∙ rw t)))

        step : number_of (next (loop number_of next n 0 first) (0 + n)) ≡ 0 → number_of (next (groups_to o a n) n) ≡ 0
        step d = ap (λ (s : Group.Step). number_of (next s n)) upto ∙ ap (λ (j : ℕ). number_of (next (loop number_of next n 0 first) j)) (sym (zero-add n)) ∙ d

        here : number_of (next (groups_to o a n) n) ≡ 0 → mark_at (next (groups_to o a n) n).work x ≡ 2
        here d = group-removes a.symbols (reserved o a).sections (reader o a) (groups_to o a n) (met_to o a met n) (to-marked o a met known n) n g d again i low

  -- an accepted merge passes its groups
  pub groups-pass : number o a ≡ 0 → (grouped o a).stage.number ≡ 0
  groups-pass z =
      by-test (eqb (grouped o a).stage.number 0) (λ b. eqb-true _ _ b)
      (λ b.
      by-test (eqb (reserved o a).reserved.number 0)
      (λ c. absurd (eqb-false _ _ b (sym (ap (λ (x : All). x.stage.number) (sections-pass o a (eqb-true _ _ c) ∙ groups-stop o a (eqb-false _ _ b))) ∙ z)))
      (λ c. absurd (eqb-false _ _ c (sym (ap (λ (x : All). x.stage.number) (sections-stop o a (eqb-false _ _ c))) ∙ z))))

  pub merge-passes : (merge_of o a).said.number ≡ 0 → ((head_in o a).number ≡ 0) × (number o a ≡ 0)
  unfolding merge_of finished_of ended_as
  merge-passes z =
      by-test (eqb (head_in o a).number 0)
      (λ b.
      by-test (eqb (number o a) 0) (λ c. (eqb-true _ _ b, eqb-true _ _ c)) (λ c. absurd (eqb-false _ _ c (rw (b, c) at z))))
      (λ b. absurd (eqb-false _ _ b (rw b at z)))
