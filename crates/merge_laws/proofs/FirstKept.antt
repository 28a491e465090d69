-- Of the groups of one signature the first is kept, over several objects too; and what becomes of the symbols of the others.
-- Assumes nothing.
use Rattle.std.specs.Prelude.{ℕ, zero, suc, ◌+◌, ◌≤◌, ◌<◌, ◌≡◌, refl, Bool, true, cond, not, ◌||◌, List, [], ◌∷◌, ◌++◌, ◌≢◌, ltb, length}
use Rattle.std.proofs.Common.{zero-add, arith, sym, ap, ◌∙◌, subst, append-nil, append_assoc}
use Rattle.std.proofs.Math.Bool.{false}
use Rattle.std.proofs.lemmas.Bool.{false≢true}
use Rattle.std.proofs.Math.Dec.{eqb}
use borrow.Author.Tests.{eqb-true, eqb-false, eq-eqb, ne_eqb}
use Rattle.cells.specs.Proof.Split.{by-test}
use Rattle.gabi.specs.StringTable.{among}
use Rattle.gabi.specs.SymbolTable.{Sym, is_local, is_global, is_weak}
use Rattle.gabi.specs.Groups as Gabi
use Rattle.gabi.specs.Groups.{stays, gone, unsaid, after_discard, undefine}
use Rattle.elf_object.specs.Rows.{rows_in, field, elf_at, is_loaded, mark_at}
use Rattle.elf_object.specs.Judge.{first_bad}
use Rattle.section_groups.specs.Group as Group
use Rattle.section_groups.specs.Group.{mark_group_of, mark_all, group_section_of}
use Rattle.section_groups.specs.Filter.{section_after, discarded_at, dropped_at, symbol_ok, filter_of}
use Rattle.merge_symbols.specs.Plan.{filtered_at}
use Rattle.merge_stages.specs.Stages.{All, Object}
use Rattle.symbol_laws.specs.History.{State}
use Rattle.symbol_laws.specs.Gabi.{sym_of}
use Rattle.merge_laws.specs.Steps.{Step, others, run_steps}
use Rattle.merge_laws.proofs.Beside.{others-make}
use Rattle.merge_laws.proofs.Placed.{reserve-beside}
use Rattle.merge_laws.proofs.Loop.{loop, steps_next}
use Rattle.merge_laws.specs.MergeSteps.{group_section_steps, group_first, reserve_first}
use Rattle.merge_laws.specs.GroupStage.{number_of}
use Rattle.merge_laws.proofs.GroupStageLemmas.{groups-loop, groups-make-to}
use Rattle.merge_laws.proofs.GroupStage as GroupStage
use Rattle.merge_laws.specs.Whole.{table_in}
use Rattle.merge_laws.specs.Stops.{reserved, prepared, groups_to}
use Rattle.merge_laws.specs.Marked.{Marked, marks_of}
use Rattle.merge_laws.proofs.MarkedLemmas.{marks-append, steps-marked}
use Rattle.merge_laws.proofs.GroupMarks.{kept_new, group-marks, group-signature}
use Rattle.merge_laws.specs.FirstKept.{reader, signature, listed, steps_to, met_to, removed_in}

not-not : (b : Bool) → not (not b) ≡ b
not-not true = refl
not-not false = refl

module _ (o : Object) (a : All) where
  module _ (met : List (List ℕ)) (m : Marked (table_in a) met) where
    prepared-marked : Marked (table_in (prepared o a)) met
    prepared-marked =
        let steps =
        others-make (table_in a) (reserved o a).sections (reserved o a).reserved.link (reserve-beside o.headers (reserve_first a)) in
        subst (Marked (table_in (prepared o a))) (append-nil met)
        (subst (λ (t : State). Marked t (met ++ [])) steps.leads
        (steps-marked (others (reserved o a).sections (reserved o a).reserved.link ∷ []) (table_in a) met steps.accepted m))

    pub to-marked : (n : ℕ) → Marked (GroupStage.table_in a.symbols (reserved o a).sections (groups_to o a n)) (met_to o a met n)
    to-marked n =
        let steps = groups-make-to a.symbols (reserved o a).sections (reader o a) n (group_first (prepared o a)) in
        subst (λ (t : State). Marked t (met_to o a met n)) steps.leads
        (steps-marked (steps_to o a n) (table_in (prepared o a)) met steps.accepted prepared-marked)

    -- the n-th section's own signature
    pub section-marks : (s : Group.Step) (n : ℕ) (now : List (List ℕ)) → Marked (GroupStage.table_in a.symbols (reserved o a).sections s) now
        → is_loaded (reader o a).headers n 7 ≡ true → (group_section_of (reader o a) s n).stage.number ≡ 0
        → marks_of (group_section_steps (reader o a) s n) (GroupStage.table_in a.symbols (reserved o a).sections s) ≡ signature o a n ∷ []
    section-marks s n now k g z = group-signature a.symbols (reserved o a).sections (reader o a) s now k n g z

    pub other-marks : (s : Group.Step) (n : ℕ) → is_loaded (reader o a).headers n 7 ≡ false
        → marks_of (group_section_steps (reader o a) s n) (GroupStage.table_in a.symbols (reserved o a).sections s) ≡ []
    unfolding group_section_steps
    other-marks s n g = rw g

    pub marks-to : (n : ℕ) → (groups_to o a n).stage.number ≡ 0
        → marks_of (steps_to o a (suc n)) (table_in (prepared o a)) ≡ marks_of (steps_to o a n) (table_in (prepared o a)) ++ marks_of (group_section_steps (reader o a) (groups_to o a n) n) (GroupStage.table_in a.symbols (reserved o a).sections (groups_to o a n))
    marks-to n z =
        let first : Group.Step = group_first (prepared o a) in
        let t : State = table_in (prepared o a) in
        let e : groups_to o a n ≡ loop number_of (group_section_of (reader o a)) n 0 first = groups-loop (reader o a) n 0 first in
        let k : steps_to o a (suc n) ≡ steps_to o a n ++ group_section_steps (reader o a) (groups_to o a n) n =
        steps_next number_of (group_section_of (reader o a)) (group_section_steps (reader o a)) n 0 first (ap number_of (sym e) ∙ z)
        ∙ ap (λ (k : ℕ). steps_to o a n ++ group_section_steps (reader o a) (loop number_of (group_section_of (reader o a)) n 0 first) k) (zero-add n)
        ∙ ap (λ (s : Group.Step). steps_to o a n ++ group_section_steps (reader o a) s n) (sym e) in
        let m : marks_of (steps_to o a (suc n)) t ≡ marks_of (steps_to o a n) t ++ marks_of (group_section_steps (reader o a) (groups_to o a n) n) (run_steps (steps_to o a n) t) =
        ap (λ (l : List Step). marks_of l t) k ∙ marks-append (steps_to o a n) (group_section_steps (reader o a) (groups_to o a n) n) t in
        let r = (groups-make-to a.symbols (reserved o a).sections (reader o a) n first).leads in
        m ∙ ap (λ (u : State). marks_of (steps_to o a n) t ++ marks_of (group_section_steps (reader o a) (groups_to o a n) n) u) r

    marks-next : (n : ℕ) → (groups_to o a n).stage.number ≡ 0
        → met_to o a met (suc n) ≡ met_to o a met n ++ marks_of (group_section_steps (reader o a) (groups_to o a n) n) (GroupStage.table_in a.symbols (reserved o a).sections (groups_to o a n))
    marks-next n z = ap (◌++◌ met) (marks-to n z) ∙ sym (append_assoc met (marks_of (steps_to o a n) (table_in (prepared o a))) _)

    -- the signatures met are those of the accepted groups, in order
    pub met-group : (n : ℕ) → (groups_to o a n).stage.number ≡ 0 → is_loaded (reader o a).headers n 7 ≡ true
        → (group_section_of (reader o a) (groups_to o a n) n).stage.number ≡ 0 → met_to o a met (suc n) ≡ met_to o a met n ++ (signature o a n ∷ [])
    met-group n z g h = marks-next n z ∙ ap (◌++◌ (met_to o a met n)) (section-marks (groups_to o a n) n (met_to o a met n) (to-marked n) g h)

    pub met-other : (n : ℕ) → (groups_to o a n).stage.number ≡ 0 → is_loaded (reader o a).headers n 7 ≡ false → met_to o a met (suc n) ≡ met_to o a met n
    met-other n z g = marks-next n z ∙ ap (◌++◌ (met_to o a met n)) (other-marks (groups_to o a n) n g) ∙ append-nil (met_to o a met n)

    pub first-kept : (n : ℕ) → is_loaded (reader o a).headers n 7 ≡ true → (group_section_of (reader o a) (groups_to o a n) n).stage.number ≡ 0 → (later : List (List ℕ))
        → (group_section_of (reader o a) (groups_to o a n) n).work
        ≡ mark_all (mark_group_of (groups_to o a n).work n) (not (Gabi.kept (met_to o a met n ++ signature o a n ∷ later) (length (met_to o a met n)))) (listed o a n)
    first-kept n g z later =
        group-marks a.symbols (reserved o a).sections (reader o a) (groups_to o a n) (met_to o a met n) (to-marked n) n g z
        ∙ ap (λ (b : Bool). mark_all (mark_group_of (groups_to o a n).work n) b (listed o a n))
        (sym (ap not (kept_new (met_to o a met n) (signature o a n) later) ∙ not-not (among (signature o a n) (met_to o a met n))))

-- ---- the filter, and the gABI's rule for symbols of a discarded section

named : (b : ℕ) → b ≢ 0 → b ≤ 2 → (eqb b 1 || eqb b 2) ≡ true
named zero n h = absurd (n refl)
named (suc zero) n h = refl
named (suc (suc zero)) n h = refl
named (suc (suc (suc b))) n h = absurd (omega arith)

module _ (work entries : List ℕ) (i : ℕ) where
  abbrev section : ℕ
  section = field entries i 4

  after_is : section_after work section ≡ cond (removed_in work section) 0 section
  unfolding section_after
  after_is =
      by-test (eqb section 0) (λ a. let e : section ≡ 0 = eqb-true _ _ a in rw e (by-test (eqb (mark_at work 0) 2) (λ b. rw b) (λ b. rw b)))
      (λ a. rw a (by-test (ltb section 0xff00) (λ b. rw b) (λ b. rw b)))

  removed-other : removed_in work section ≡ true → section ≢ 0
  removed-other e z = false≢true (rw (eq-eqb _ _ z) at e)

  -- a symbol that passes is what the gABI makes of it, where that says what becomes of it
  pub filter-agrees : (removed_in work section ≡ true → field entries i 1 ≤ 2) → discarded_at work entries i ≡ false
      → after_discard (removed_in work section) (sym_of (elf_at entries i)) ≡ stays (sym_of (filtered_at entries work i))
  unfolding discarded_at after_discard undefine is_local is_global is_weak
  filter-agrees low e =
      by-test (removed_in work section)
      (λ r.
      by-test (eqb (field entries i 1) 0)
      (λ b.
      let z : section_after work section ≡ 0 = after_is ∙ rw r in
      by-test (eqb (section_after work section) section) (λ c. absurd (removed-other r (sym (eqb-true _ _ c) ∙ z))) (λ c. absurd (false≢true (sym (rw (b, c) at e)))))
      (λ b. rw (after_is, r, b, named (field entries i 1) (eqb-false _ _ b) (low r))))
      (λ r. rw (after_is, r))

  -- and of the other bindings it says nothing; they pass here too, to be refused (12) where they are added
  pub filter-unsaid : removed_in work section ≡ true → 2 < field entries i 1
      → (discarded_at work entries i ≡ false) × (after_discard (removed_in work section) (sym_of (elf_at entries i)) ≡ unsaid)
  unfolding discarded_at after_discard is_local is_global is_weak
  filter-unsaid r h =
      let z : eqb (field entries i 1) 0 ≡ false = ne_eqb _ _ (λ (e : field entries i 1 ≡ 0). omega arith) in
      let o : eqb (field entries i 1) 1 ≡ false = ne_eqb _ _ (λ (e : field entries i 1 ≡ 1). omega arith) in
      let t : eqb (field entries i 1) 2 ≡ false = ne_eqb _ _ (λ (e : field entries i 1 ≡ 2). omega arith) in
      (rw z, rw (r, z, o, t))

  -- "a local in a dropped group is an error": where the filter stops, the gABI discards the symbol
  pub filter-differs : discarded_at work entries i ≡ true → after_discard (removed_in work section) (sym_of (elf_at entries i)) ≡ gone
  unfolding discarded_at after_discard is_local
  filter-differs e =
      by-test (eqb (field entries i 1) 0)
      (λ b.
      by-test (removed_in work section) (λ r. rw (r, b))
      (λ r.
      let z : section_after work section ≡ section = after_is ∙ rw r in
      absurd (false≢true (rw (b, eq-eqb _ _ z) at e))))
      (λ b. absurd (false≢true (rw b at e)))

  -- and of the symbols that the gABI discards each is one
  pub gone-discarded : after_discard (removed_in work section) (sym_of (elf_at entries i)) ≡ gone → discarded_at work entries i ≡ true
  unfolding discarded_at after_discard is_local is_global is_weak
  gone-discarded e =
      by-test (removed_in work section)
      (λ r.
      by-test (eqb (field entries i 1) 0)
      (λ b.
      let z : section_after work section ≡ 0 = after_is ∙ rw r in
      rw (b, ne_eqb (section_after work section) section (λ q. removed-other r (sym q ∙ z))))
      (λ b. absurd (other (eqb (field entries i 1) 1 || eqb (field entries i 1) 2) _ (rw (r, b) at e))))
      (λ r. absurd (stayed _ (rw r at e)))
    where
      stayed : (x : Sym) → stays x ≡ gone → ⊥
      stayed x q = let z : ◌≡◌ {A = ℕ} 0 1 = cc in omega arith

      other : (t : Bool) (x : Sym) → cond t (stays x) unsaid ≡ gone → ⊥
      other true x q = stayed x q
      other false x q = let z : ◌≡◌ {A = ℕ} 0 1 = cc in omega arith

  -- in the gABI's profile: dropped where the gABI discards it, and else what the gABI makes of it
  pub profile-agrees : (removed_in work section ≡ true → field entries i 1 ≤ 2)
      → after_discard (removed_in work section) (sym_of (elf_at entries i)) ≡ cond (dropped_at true work entries i) gone (stays (sym_of (filtered_at entries work i)))
  profile-agrees low = by-test (discarded_at work entries i) (λ d. rw d (filter-differs d)) (λ d. rw d (filter-agrees low d))

module _ (work entries : List ℕ) where
  passes-from : (n i : ℕ) → first_bad (symbol_ok true work entries) i n ≡ i + n
  unfolding first_bad symbol_ok
  passes-from zero i = let e : i ≡ i + 0 = omega arith in e
  passes-from (suc n) i = let e : i + 1 + n ≡ i + suc n = omega arith in passes-from n (i + 1) ∙ e

  pub filter-passes : filter_of true work entries ≡ rows_in entries
  unfolding filter_of
  filter-passes = passes-from (rows_in entries) 0 ∙ zero-add (rows_in entries)
