-- A merge's answer is that of its head, else of the first of its stages that is refused.
-- Assumes nothing.
use Rattle.std.specs.Prelude.{ℕ, ◌+◌, ◌*◌, ◌/◌, ◌<◌, ◌≤◌, ◌≡◌, refl, Bool, true, false, cond, not, ◌&&◌, ◌||◌, List, ◌++◌, eqb, ltb, drop, length}
use Rattle.std.proofs.Common.{arith, ◌∙◌, subst, length-take, length-drop, eqb-true, ltb-true, ltb-false}
use Rattle.std.proofs.Math.Path.{sym, ap}
use Rattle.std.proofs.lemmas.Bool.{false≢true, eqb-false}
use Rattle.cells.specs.Proof.Split.{by-test}
use Rattle.link.specs.Judge as Answer
use Rattle.link.specs.declared.cause.Refusal.{Refusal}
use Rattle.link.specs.Bounds.{input_rows}
use Rattle.link.specs.Judge.{refused}
use Rattle.elf_object.specs.Rows.{rows_in}
use Rattle.section_groups.specs.Group as Group
use Rattle.merge_symbols.specs.Stage as Symbols
use Rattle.merge_build.specs.Build as Build
use Rattle.merge_build.specs.Finish.{BuildLinks, InputLinks, building, input_row_of, input_stage, program_stage}
use Rattle.merge_stages.specs.Stages.{All, Object, Tabled, SymbolLinks, group_object, symbols_in, put_symbols}
use Rattle.merge_elf.specs.declared.Outcome.{Outcome}
use Rattle.merge_elf.specs.Merge as Merge
use Rattle.merge_elf.specs.Merge.{ended_as, finished_of, merge_of}
use Rattle.merge_laws.specs.MergeSteps.{symbol_steps, reserve_first, group_first, symbol_first}
use Rattle.merge_laws.specs.Marked.{Marked}
use Rattle.merge_laws.proofs.MarkedLemmas.{steps-marked}
use Rattle.merge_laws.specs.FirstKept.{met_to}
use Rattle.merge_laws.proofs.FirstKept.{to-marked}
use Rattle.merge_laws.specs.Whole.{table_in}
use Rattle.merge_laws.specs.SymbolStage.{number_of}
use Rattle.merge_laws.proofs.SymbolStageLemmas.{symbols-make}
use Rattle.merge_laws.specs.Loop.{loop_steps}
use Rattle.interner_laws.specs.Good.{Good}
use Rattle.symbol_laws.specs.History.{State, store}
use Rattle.merge_laws.specs.Stops.{reserved, object, prepared, symbol_reader, grouped, marked, added, with_added, builder, before2, before1, before0, end}
use Rattle.merge_laws.proofs.Stops.{filtered, sections-stop, sections-pass, groups-stop, filter-stop, filter-pass, symbols-stop, symbols-pass}
use Rattle.link_laws.specs.Rules.{Rule, least, first_refusal, in_turn, numbered}
use Rattle.link_laws.proofs.Rules.{numbered-both, none_both, each_none, each-of-numbered, turn-numbered, turn-same, first-none, follows, taken, left_out}
use Rattle.link_laws.specs.ObjectRules.{cell_at, is_section, is_bad_header, header_rules, entry_rules, object_rules}
use Rattle.link_laws.proofs.ObjectExactly.{headers-numbered, object-numbered}
use Rattle.link_laws.specs.MergeRules.{Found, absent, found, Reading, loaded_table, entries_in, rows_below, section_rules, group_rules, filter_rules, is_dropped, table_at, is_first, is_idless, symbol_rules, build_rules, input_rules, change_rules, work_rules, d, k, is_identified, head_list, section_list, group_list, symbol_list, uninitialized_list, program_list, merge_rules}
use Rattle.link_laws.proofs.MergeExactly.{at_work, identified_by, section_said}
use Rattle.link_laws.proofs.MergeSymbols as MergeSymbols
use Rattle.link_laws.proofs.MergeSymbols.{symbol_said, symbol-numbered, symbols-exactly}
use Rattle.link_laws.proofs.MergeGroups as Groups
use Rattle.link_laws.proofs.MergeGroups.{group_said, group-rules-numbered, groups-exactly}
use Rattle.link_laws.proofs.MergeBuilds as Builds
use Rattle.link_laws.proofs.MergeBuilds.{Names, builds-exactly, builds-good}
use Rattle.link_laws.proofs.MergeReading.{none-placed, sections-exactly}
use Rattle.link_laws.proofs.MergeObject.{object-is, before-listed, long}
use Rattle.link_laws.proofs.MergeIds.{all_ids}
use Rattle.link_laws.proofs.MergeSame.{filter_same, symbol-same, identified-same, build-same}
use Rattle.link_laws.proofs.MergeHead.{head-exactly, filter-exactly, filters-numbered, input-exactly}

infixr 6 ◌and_then◌
abbrev pub ◌and_then◌ : Refusal → Refusal → Refusal
◌and_then◌ r q = cond (eqb r.number 0) q r

abbrev pub built_said : BuildLinks → Refusal
built_said s = refused s.stage.number s.stage.place

abbrev all_said : All → Refusal
all_said a = refused a.stage.number a.stage.place

pub then_is : {x : Refusal} (r q : Refusal) → (eqb r.number 0 ≡ true → x ≡ q) → (eqb r.number 0 ≡ false → x ≡ r) → x ≡ r and_then q
then_is r q f g = by-test (eqb r.number 0) (λ e. f e ∙ sym (taken q r e)) (λ e. g e ∙ sym (left_out q r e))

-- a result has place 0
abbrev Quiet : Refusal → Type 0
Quiet r = r.number ≡ 0 → r ≡ refused 0 0

then-quiet : (r q : Refusal) → Quiet q → Quiet (r and_then q)
then-quiet r q f n =
    by-test (eqb r.number 0) (λ e. taken q r e ∙ f (ap (λ (x : Refusal). x.number) (sym (taken q r e)) ∙ n))
    (λ e. absurd (eqb-false _ _ e (ap (λ (x : Refusal). x.number) (sym (left_out q r e)) ∙ n)))

filter-then : {x : Refusal} (b : Bool) (r q : Refusal) → eqb r.number 0 ≡ false → (b ≡ true → x ≡ r) → (b ≡ false → x ≡ q) → x ≡ cond b r (refused 0 0) and_then q
filter-then true r q n f g = f refl ∙ sym (left_out q r n)
filter-then false r q n f g = g refl

module _ (o : Object) (a : All) where
  abbrev pub filter_said : Refusal
  filter_said = cond (ltb (filtered o a) (rows_in (object o a).entries)) (refused 8 (filtered o a)) (refused 0 0)

  abbrev pub input_said : Refusal
  input_said =
      refused (input_row_of (before0 o a).inputs (before0 o a).stage.link).stage.number (input_row_of (before0 o a).inputs (before0 o a).stage.link).stage.place

  abbrev pub end_said : Refusal
  end_said = refused (end o a).stage.number (end o a).stage.place

  input-quiet : Quiet input_said
  unfolding input_row_of
  input-quiet e =
      by-test (ltb (before0 o a).stage.link.inputs (input_rows (length (before0 o a).inputs))) (λ x. ap said (taken _ _ x))
      (λ x. absurd (differ (sym (ap (λ (i : InputLinks). i.stage.number) (left_out _ _ x)) ∙ e)))
    where
      said : InputLinks → Refusal
      said i = refused i.stage.number i.stage.place

      differ : ◌≡◌ {A = ℕ} 2 0 → ⊥
      differ q = omega arith

  abbrev rest : Refusal
  rest = built_said (before1 o a) and_then built_said (before0 o a) and_then input_said

  -- the stages that build
  built-chain : built_said (program_stage (builder o a) (before1 o a)) ≡ rest
  unfolding program_stage input_stage
  built-chain =
      then_is (built_said (before1 o a)) _
      (λ x.
      ap built_said (taken _ _ x)
      ∙ then_is (built_said (before0 o a)) _ (λ y. ap built_said (taken _ _ y)) (λ y. ap built_said (left_out _ _ y)))
      (λ x. ap built_said (left_out _ _ x))

  pub stages-chain : end_said ≡ section_said (reserved o a) and_then group_said (grouped o a) and_then filter_said and_then symbol_said (added o a) and_then rest
  stages-chain =
      then_is (section_said (reserved o a)) _
      (λ x.
      ap all_said (sections-pass o a (eqb-true _ _ x))
      ∙ then_is (group_said (grouped o a)) _
      (λ y.
      filter-then (ltb (filtered o a) (rows_in (object o a).entries)) (refused 8 (filtered o a)) _ refl (λ z. ap all_said (filter-stop o a (eqb-true _ _ y) z))
      (λ z.
      ap all_said (filter-pass o a (eqb-true _ _ y) z)
      ∙ then_is (symbol_said (added o a)) _
      (λ w. ap (λ (s : SymbolLinks). all_said (put_symbols (marked o a) s)) (symbols-pass o a (eqb-true _ _ w)) ∙ built-chain)
      (λ w. ap (λ (s : SymbolLinks). all_said (put_symbols (marked o a) s)) (symbols-stop o a (eqb-false _ _ w)))))
      (λ y. ap all_said (groups-stop o a (eqb-false _ _ y))))
      (λ x. ap all_said (sections-stop o a (eqb-false _ _ x)))

  end_quiet : Quiet end_said
  end_quiet =
      subst Quiet (sym stages-chain)
      (then-quiet (section_said (reserved o a)) _
      (then-quiet (group_said (grouped o a)) _
      (then-quiet filter_said _
      (then-quiet (symbol_said (added o a)) _ (then-quiet (built_said (before1 o a)) _ (then-quiet (built_said (before0 o a)) _ input-quiet))))))

  ended-said : Answer.refusal_in (ended_as (end o a).stage).answer ≡ end_said
  unfolding ended_as
  ended-said =
      by-test (eqb (end o a).stage.number 0)
      (λ e. ap (λ (r : Outcome). Answer.refusal_in r.answer) (taken _ _ e) ∙ sym (end_quiet (eqb-true _ _ e)))
      (λ e. ap (λ (r : Outcome). Answer.refusal_in r.answer) (left_out _ _ e))

  -- the answer
  pub merge-chain : (merge_of o a).said ≡ Merge.head_in o a and_then section_said (reserved o a) and_then group_said (grouped o a) and_then filter_said and_then symbol_said (added o a) and_then rest
  unfolding merge_of finished_of ended_as
  merge-chain =
      then_is (Merge.head_in o a) _
      (λ x. ap (λ (x : Merge.Left). x.said) (taken _ _ x) ∙ ended-said ∙ stages-chain)
      (λ x. ap (λ (x : Merge.Left). x.said) (left_out _ _ x))

-- ---- stage by stage, in document 01's rules

then-list : (r q : Refusal) (xs ys : List Rule) → numbered xs ≡ true → r ≡ first_refusal xs → (eqb r.number 0 ≡ true → q ≡ first_refusal ys) → r and_then q ≡ first_refusal (xs ++ ys)
then-list r q xs ys n e f = follows xs ys r (r and_then q) n e (λ a. left_out q r a) (λ a. taken q r a ∙ f a)

-- ---- no rule has the number of a result

pub build-numbered : (k : Reading) (identified : ℕ → Bool) (d : Tabled) (kind : ℕ) (s : Build.State) (n : ℕ) → numbered (build_rules k identified d kind s n) ≡ true
build-numbered k identified d kind s n = by-test (is_section d.headers n kind && not (k.removed n)) (λ e. rw e) (λ e. rw e)

module _ (o : Object) (a : All) where
  abbrev rows : ℕ
  rows = length o.headers / 8

  head-numbered : numbered (head_list o a) ≡ true
  head-numbered =
      numbered-both (object_rules o.headers o.entries o.contents o.image) (work_rules o a) (object-numbered o.headers o.entries o.contents o.image) refl

  sections-numbered : numbered (section_list o a) ≡ true
  sections-numbered =
      each-of-numbered (λ n. section_rules o.headers (least a.stage.link.slots (length a.sections / 9)) (a.stage.link.sections + rows_below o.headers n) n) (λ n. refl) rows 0

  groups-numbered : numbered (group_list o a) ≡ true
  groups-numbered =
      turn-numbered (group_rules (group_object (d o a))) (Group.group_section_of (group_object (d o a))) (group-rules-numbered (group_object (d o a))) rows 0 (group_first (prepared o a))

  abbrev filter_list : List Rule
  filter_list = filter_rules (k o a) (d o a).entries

  symbols-numbered : numbered (symbol_list o a) ≡ true
  symbols-numbered =
      turn-numbered (λ s i. symbol_rules (k o a) (d o a) i s) (Symbols.symbol_of (symbol_reader o a)) (λ s i. symbol-numbered (k o a) (d o a) i s) (length (d o a).entries / 8) 0
      (symbol_first (symbols_in (marked o a)))

  uninitialized-numbered : numbered (uninitialized_list o a) ≡ true
  uninitialized-numbered =
      turn-numbered (build_rules (k o a) (is_identified o a) (d o a) 2) (λ s n. Build.section_of (builder o a) s n 2) (build-numbered (k o a) (is_identified o a) (d o a) 2) rows 0 (building (before2 o a))

  program-numbered : numbered (program_list o a) ≡ true
  program-numbered =
      turn-numbered (build_rules (k o a) (is_identified o a) (d o a) 1) (λ s n. Build.section_of (builder o a) s n 1) (build-numbered (k o a) (is_identified o a) (d o a) 1) rows 0 (building (before1 o a))

  abbrev input_list : List Rule
  input_list = input_rules (before0 o a).stage.link (before0 o a).inputs

  abbrev from-program : List Rule
  from-program = program_list o a ++ input_list

  abbrev from-uninitialized : List Rule
  from-uninitialized = uninitialized_list o a ++ from-program

  abbrev from-symbols : List Rule
  from-symbols = symbol_list o a ++ from-uninitialized

  abbrev from-filter : List Rule
  from-filter = filter_list ++ from-symbols

  abbrev from-groups : List Rule
  from-groups = group_list o a ++ from-filter

  abbrev from-sections : List Rule
  from-sections = section_list o a ++ from-groups

  pub merge-numbered : numbered (merge_rules o a) ≡ true
  merge-numbered =
      numbered-both (head_list o a) from-sections head-numbered
      (numbered-both (section_list o a) from-groups sections-numbered
      (numbered-both (group_list o a) from-filter groups-numbered
      (numbered-both filter_list from-symbols (filters-numbered (k o a) (d o a).entries)
      (numbered-both (symbol_list o a) from-uninitialized symbols-numbered
      (numbered-both (uninitialized_list o a) from-program uninitialized-numbered (numbered-both (program_list o a) input_list program-numbered refl))))))

  -- ---- what the head lets through

  entries-fewer : (f : Found) → length (entries_in o.headers o.entries f) ≤ length o.entries
  entries-fewer absent = omega arith
  entries-fewer (found n) =
      rw (length-take (cell_at o.headers n 6 * 8) (drop (cell_at o.headers n 5 * 8) o.entries), length-drop (cell_at o.headers n 5 * 8) o.entries) (omega arith)

  module _ (h : eqb (Merge.head_in o a).number 0 ≡ true) where
    abbrev rows_and_work : List Rule
    rows_and_work = object_rules o.headers o.entries o.contents o.image ++ work_rules o a

    own : eqb (first_refusal rows_and_work).number 0 ≡ true
    own = (none_both (change_rules o a) rows_and_work refl (ap (λ (r : Refusal). eqb r.number 0) (sym (head-exactly o a)) ∙ h)).1

    both-parts : (eqb (first_refusal (object_rules o.headers o.entries o.contents o.image)).number 0 ≡ true) × (eqb (first_refusal (work_rules o a)).number 0 ≡ true)
    both-parts =
        none_both (object_rules o.headers o.entries o.contents o.image) (work_rules o a) (object-numbered o.headers o.entries o.contents o.image) own

    header-good : (n : ℕ) → n < rows → is_bad_header o.headers o.entries o.contents o.image n ≡ false
    header-good n l =
        each_none (is_bad_header o.headers o.entries o.contents o.image) 1 refl rows 0
        (none_both (header_rules o.headers o.entries o.contents o.image) (entry_rules o.entries) (headers-numbered o.headers o.entries o.contents o.image) both-parts.0).0 n
        (omega arith) (omega arith)

    few : rows ≤ 65280
    few =
        by-test (ltb 65280 rows) (λ b. absurd (false≢true (sym (header-good 65280 (ltb-true _ _ b))))) (λ b. ltb-false _ _ b)

    lent : rows ≤ length a.work / 8
    lent =
        by-test (ltb (length a.work / 8) rows) (λ b. absurd (false≢true (rw b at both-parts).1)) (λ b. ltb-false _ _ b)

    ids-lent : length o.entries / 8 ≤ length a.ids
    ids-lent =
        by-test (ltb (length a.ids) (length o.entries / 8))
        (λ b. by-test (ltb (length a.work / 8) rows) (λ c. absurd (false≢true (rw c at both-parts).1)) (λ c. absurd (false≢true (rw (c, b) at both-parts).1)))
        (λ b. ltb-false _ _ b)

  -- ---- the stages

  module _ (met : List (List ℕ)) (m : Marked (table_in a) met) where
    abbrev work : List ℕ
    work = (marked o a).work

    abbrev profile : Bool
    profile = (marked o a).stage.link.gabi

    groups-named : Groups.Notes (group_object (object o a)) (group_first (prepared o a)) 0 → Groups.Named (group_object (object o a)) (group_first (prepared o a)) 0
    unfolding Group.groups_from
    groups-named notes =
        let k = to-marked o a met m 0 in
        record { quiet = refl; met = met_to o a met 0; marked = record { good = k.good; marks = k.marks; known = k.known }; notes = notes }

    symbols-named : MergeSymbols.Named profile (object o a) work (symbol_first (symbols_in (marked o a))) 0
    unfolding Group.groups_of
    symbols-named =
        let k = to-marked o a met m (length o.headers / 8) in
        record { profile = refl; met = met_to o a met (length o.headers / 8); marked = k }

    before-good : Names (building (before2 o a))
    before-good =
        let first = symbol_first (symbols_in (marked o a)) in
        let made = symbols-make (symbol_reader o a) first in
        subst (λ (t : State). Good (store t)) made.leads
        (steps-marked (loop_steps number_of (Symbols.symbol_of (symbol_reader o a)) (symbol_steps (symbol_reader o a)) (length (object o a).entries / 8) 0 first) (table_at first)
        symbols-named.met made.accepted symbols-named.marked).good

    module _ (h : eqb (Merge.head_in o a).number 0 ≡ true) where
      sections-said : section_said (reserved o a) ≡ first_refusal (section_list o a)
      sections-said =
          sections-exactly o.headers a.stage.link.sections (length a.work) a.stage.link.slots (length a.sections) (reserve_first a) (few h)
          (record { placed = none-placed o.headers _ _ _ _ (reserve_first a) refl refl refl refl refl (lent h); met = refl })
          refl

      module _ (p : (reserved o a).reserved.number ≡ 0) where
        is : object o a ≡ d o a
        is = object-is o a (few h) (lent h) p

        notes : Groups.Notes (group_object (object o a)) (group_first (prepared o a)) 0
        notes =
            record { room = λ m l. omega (arith, l, lent h, long o a (few h) (lent h) p); says = λ m l. before-listed o a (few h) (lent h) p m l }

        groups-said : group_said (grouped o a) ≡ first_refusal (group_list o a)
        groups-said =
            groups-exactly (group_object (object o a)) (group_first (prepared o a)) (groups-named notes)
            ∙ ap (λ (x : Tabled). first_refusal (in_turn (group_rules (group_object x)) (Group.group_section_of (group_object x)) rows 0 (group_first (prepared o a)))) is

        module _ (q : (grouped o a).stage.number ≡ 0) where
          filter-said : filter_said o a ≡ first_refusal filter_list
          filter-said =
              filter-exactly profile work (object o a).entries
              ∙ ap (λ (x : Tabled). first_refusal (filter_rules (at_work profile work) x.entries)) is ∙ ap first_refusal (filter_same o a (few h) (lent h) p met m q)

          abbrev first : Symbols.State
          first = symbol_first (symbols_in (marked o a))

          symbols-said : symbol_said (added o a) ≡ first_refusal (symbol_list o a)
          symbols-said =
              symbols-exactly profile (object o a) work first symbols-named refl
              ∙ ap (λ (x : Tabled). first_refusal (in_turn (λ s i. symbol_rules (at_work profile work) x i s) (Symbols.symbol_of (symbol_reader o a)) (length x.entries / 8) 0 first)) is
              ∙ ap first_refusal
              (turn-same (λ s i. symbol_rules (at_work profile work) (d o a) i s) (λ s i. symbol_rules (k o a) (d o a) i s) (Symbols.symbol_of (symbol_reader o a)) (length (d o a).entries / 8) 0 first
              (λ s i l. symbol-same o a (few h) (lent h) p met m q i (omega arith) s))

          module _ (z : (added o a).stage.number ≡ 0) where
            abbrev ids : List ℕ
            ids = (with_added o a (added o a)).ids

            ids-are : (i : ℕ) → i < length (d o a).entries / 8 → identified_by ids i ≡ is_identified o a i
            ids-are i l =
                subst (λ (x : Tabled). (i : ℕ) → i < length x.entries / 8 → identified_by ids i ≡ not (is_dropped (at_work profile work) x.entries i) && (is_first (at_work profile work) x i || not (is_idless (at_work profile work) x i))) is
                (all_ids profile (object o a) work (length a.ids) first refl fits refl z) i l
                ∙ identified-same o a (few h) (lent h) p met m q i l
              where
                fits : length (object o a).entries / 8 ≤ length a.ids
                fits =
                    subst (λ (x : Tabled). length x.entries / 8 ≤ length a.ids) (sym is) (omega (arith, entries-fewer (loaded_table o.headers), ids-lent h))

            built-said : (kind : ℕ) (s : BuildLinks) → Builds.Named (object o a) work ids kind (building s) 0
                → Builds.build_said (Build.build_of (builder o a) (building s) kind)
                ≡ first_refusal (in_turn (build_rules (k o a) (is_identified o a) (d o a) kind) (λ s n. Build.section_of (builder o a) s n kind) rows 0 (building s))
            built-said kind s g =
                builds-exactly (object o a) work ids kind (building s) g
                ∙ ap (λ (x : Tabled). first_refusal (in_turn (build_rules (at_work profile work) (identified_by ids) x kind) (λ s n. Build.section_of (builder o a) s n kind) rows 0 (building s))) is
                ∙ ap first_refusal
                (turn-same (build_rules (at_work profile work) (identified_by ids) (d o a) kind) (build_rules (k o a) (is_identified o a) (d o a) kind) (λ s n. Build.section_of (builder o a) s n kind) rows 0 (building s)
                (λ s n l. build-same o a (few h) (lent h) p met m q ids ids-are kind n (omega arith) s))

    pub merge-exactly : (merge_of o a).said ≡ first_refusal (merge_rules o a)
    merge-exactly =
        merge-chain o a
        ∙ then-list _ _ (head_list o a) from-sections head-numbered (head-exactly o a)
        (λ h.
        then-list _ _ (section_list o a) from-groups sections-numbered (sections-said h)
        (λ x.
        let p = eqb-true _ _ x in
        then-list _ _ (group_list o a) from-filter groups-numbered (groups-said h p)
        (λ x.
        let q = eqb-true _ _ x in
        then-list _ _ filter_list from-symbols (filters-numbered (k o a) (d o a).entries) (filter-said h p q)
        (λ x.
        then-list _ _ (symbol_list o a) from-uninitialized symbols-numbered (symbols-said h p q)
        (λ x.
        let z = eqb-true _ _ x in
        let u = built-said h p q z 2 (before2 o a) (record { quiet = refl; good = before-good }) in
        then-list _ _ (uninitialized_list o a) from-program uninitialized-numbered u
        (λ x.
        then-list _ _ (program_list o a) input_list program-numbered
        (built-said h p q z 1 (before1 o a)
        (record {
          quiet = u ∙ first-none (uninitialized_list o a) uninitialized-numbered (ap (λ (r : Refusal). eqb r.number 0) (sym u) ∙ x);
          good = builds-good (object o a) work (with_added o a (added o a)).ids 2 (building (before2 o a)) before-good;
        }))
        (λ x. input-exactly (before0 o a).stage.link (before0 o a).inputs)))))))
