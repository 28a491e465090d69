-- Of a load's head and of its elements: the answer is that of the first rule that holds, over names as every link has them.
-- Assumes nothing.
use Rattle.std.specs.Prelude.{ℕ, zero, suc, ◌+◌, ◌/◌, ◌≡◌, Bool, ◌&&◌, ◌||◌, List, [], ◌∷◌, ◌++◌, eqb, ltb, get_or, length, None}
use Rattle.std.proofs.Math.Path.{refl, ap}
use Rattle.std.proofs.Common.{sym, ◌∙◌, subst, eqb-true, eq-eqb}
use Rattle.std.proofs.Math.Bool.{true, false, cond, not}
use Rattle.std.proofs.lemmas.Bool.{false≢true}
use Rattle.cells.specs.Proof.Split.{by-test}
use Rattle.gabi.specs.StringTable.{has_name, name_at}
use Rattle.link.specs.declared.cause.Refusal.{Refusal}
use Rattle.link.specs.Counts.{lent_of}
use Rattle.link.specs.Judge.{refused, going_of}
use Rattle.interner.specs.Names.{find_of, fits_of}
use Rattle.interner_laws.specs.Good.{Good, Chained}
use Rattle.symbol.specs.declared.Row.{Row}
use Rattle.upcoming_symbol.specs.Upcoming.{external_row_of}
use Rattle.symbol_resolution.specs.Holder.{holder_of}
use Rattle.symbol_resolution.specs.Decide as Decide
use Rattle.symbol_resolution.specs.Decide.{decide_of}
use Rattle.elf_object.specs.Judge.{bad_entry}
use Rattle.merge_symbols.specs.Plan.{place_of}
use Rattle.shared_objects.specs.Head as Head
use Rattle.shared_objects.specs.Head.{dependencies_ok, bad_need, soname_missing, rows_of, unnamed_of, marks_short, name_refusal, after_rows}
use Rattle.shared_objects.specs.Record as Lists
use Rattle.shared_objects.specs.Record.{record_fits, record_as, record_of, keep_name, dependency_of, dependencies_from, dependencies_of}
use Rattle.shared_objects.specs.Define.{Definition}
use Rattle.shared_objects.specs.Define as Define
use Rattle.shared_objects.specs.Define.{Added, judged_of, rowed_of, external_of, plan_of, accept_of, commit_of, define_of, view}
use Rattle.shared_objects.specs.SymbolsLoad as Symbols
use Rattle.shared_objects.specs.SymbolsLoad.{looked_of, symbol_of, symbols_from, symbols_of}
use Rattle.shared_objects.specs.Load as Load
use Rattle.shared_objects.specs.Load.{Input, All}
use Rattle.load_laws.specs.Names.{record_store, state_store}
use Rattle.load_laws.proofs.LawsNames.{dependencies-names, symbols-names}
use Rattle.load_laws.specs.Whole.{table_in}
use Rattle.load_laws.proofs.Whole.{symbols-loop, dependencies-loop}
use Rattle.symbol_laws.specs.History.{State, store}
use Rattle.link_laws.specs.Rules.{Rule, ◌gives◌at◌, in_turn, head_rules, first_refusal, numbered}
use Rattle.link_laws.proofs.Rules.{numbered-both, each-numbered, follows, headed, first-is, head-rules}
use Rattle.link_laws.specs.TableRules.{id_in, is_unroomed, names_of, Asked, asked_of, defined, shown_rules, held_rules}
use Rattle.link_laws.proofs.InternExactly.{fits-is}
use Rattle.link_laws.proofs.AddExactly.{Stands, shown-library, answered, shown-first, held_first}
use Rattle.link_laws.specs.ObjectRules.{cell_at, entry_rules}
use Rattle.link_laws.proofs.ObjectExactly.{from_zero, entries-exactly, entries-numbered}
use Rattle.link_laws.proofs.MergeExactly.{stage-exactly}
use Rattle.link_laws.proofs.MergeSymbols.{find-is}
use Rattle.link_laws.specs.LoadRules.{is_named, bytes, is_defined, is_global, need_rules, name_rules, load_head, table_at, is_unrecorded, symbol_rules, dependency_rules}

-- ---- the head

module _ (o : Input) (a : All) where
  abbrev t : State
  t = table_in a

  needs-exactly : cond (ltb (bad_need o.image o.needs) (length o.needs)) (refused 1 (bad_need o.image o.needs)) (refused 0 0) ≡ first_refusal (need_rules o)
  unfolding bad_need dependencies_ok
  needs-exactly = from_zero (λ j. not (has_name o.image (get_or o.needs j 0))) (dependencies_ok o.image o.needs) 1 agree (length o.needs)
    where
      twice : (b : Bool) → b ≡ not (not b)
      twice true = refl
      twice false = refl

      agree : (j : ℕ) → dependencies_ok o.image o.needs j ≡ not (not (has_name o.image (get_or o.needs j 0)))
      agree j = twice (has_name o.image (get_or o.needs j 0))

  names-exactly : name_refusal a.link o.archived o.sonamed o.asneeded (length a.marks) ≡ first_refusal (name_rules o t (length a.marks))
  unfolding name_refusal unnamed_of marks_short
  names-exactly = tree o.archived o.sonamed o.asneeded (ltb (length a.marks) a.link.names)
    where
      tree : (x y z w : Bool) → cond (cond y false x) (refused 25 0) (cond (cond z (cond w true false) false) (refused 2 0) (refused 0 0))
          ≡ cond (x && not y) (refused 25 0) (cond (z && w) (refused 2 0) (refused 0 0))
      tree true true true true = refl
      tree true true true false = refl
      tree true true false w = refl
      tree true false z w = refl
      tree false true true true = refl
      tree false true true false = refl
      tree false true false w = refl
      tree false false true true = refl
      tree false false true false = refl
      tree false false false w = refl

  abbrev unsaid : Bool
  unsaid = o.sonamed && not (has_name o.image o.soname)

  missing-is : soname_missing o.image o.sonamed o.soname ≡ unsaid
  unfolding soname_missing
  missing-is = tree o.sonamed (has_name o.image o.soname)
    where
      tree : (x y : Bool) → cond x (cond y false true) false ≡ x && not y
      tree true true = refl
      tree true false = refl
      tree false y = refl

  abbrev strings : List Rule
  strings = (unsaid gives 1 at 0) ∷ need_rules o

  strings-exactly : cond (soname_missing o.image o.sonamed o.soname) (refused 1 0)
      (cond (ltb (bad_need o.image o.needs) (length o.needs)) (refused 1 (bad_need o.image o.needs)) (refused 0 0)) ≡ first_refusal strings
  strings-exactly = rw missing-is (first-is unsaid _ _ (λ e. rw e) (λ e. rw e needs-exactly))

  strings-numbered : numbered strings ≡ true
  strings-numbered = each-numbered (λ j. not (has_name o.image (get_or o.needs j 0))) 1 refl (length o.needs) 0

  rows-exactly : rows_of o.entries o.image o.needs o.sonamed o.soname ≡ first_refusal (entry_rules o.entries ++ strings)
  unfolding rows_of
  rows-exactly =
      let bad = bad_entry o.entries in
      follows (entry_rules o.entries) strings (cond (ltb bad (length o.entries / 8)) (refused 1 bad) (refused 0 0)) _ (entries-numbered o.entries) (entries-exactly o.entries)
      (λ z. by-test (ltb bad (length o.entries / 8)) (λ e. rw e) (λ e. absurd (false≢true (sym (rw e at z)))))
      (λ z. by-test (ltb bad (length o.entries / 8)) (λ e. absurd (false≢true (rw e at z))) (λ e. rw e strings-exactly))

  rows-numbered : numbered (entry_rules o.entries ++ strings) ≡ true
  rows-numbered = numbered-both (entry_rules o.entries) strings (entries-numbered o.entries) strings-numbered

  abbrev rest : List Rule
  rest = (entry_rules o.entries ++ strings) ++ name_rules o t (length a.marks)

  after-exactly : after_rows a.link o.archived o.sonamed o.asneeded (length a.marks) (rows_of o.entries o.image o.needs o.sonamed o.soname) ≡ first_refusal rest
  unfolding after_rows
  after-exactly =
      headed (name_rules o t (length a.marks)) (λ (r : Refusal). r) (entry_rules o.entries ++ strings) _ _ _ rows-numbered rows-exactly refl (λ e. names-exactly)

  pub head-exactly : Load.head_in o a ≡ first_refusal (load_head o t a.inputs a.lists (length a.marks))
  unfolding Head.check_of
  head-exactly =
      headed rest (λ (r : Refusal). r)
      (head_rules a.link (lent_of (length a.names) (length a.bytes) (length a.symbols) (length a.sections) (length a.inputs) (length a.lists))) _ _ _ refl
      (head-rules a.link _) refl (λ e. after-exactly)

  pub head-numbered : numbered (load_head o t a.inputs a.lists (length a.marks)) ≡ true
  head-numbered = numbered-both (entry_rules o.entries ++ strings) (name_rules o t (length a.marks)) rows-numbered refl

-- ---- a name to be recorded

recorded-is : (t : State) (lists : ℕ) (x : List ℕ) → Chained (store t)
    → record_fits t.link t.bytes t.names lists (record { 0 = find_of t.bytes t.names t.link x }) (length x) ≡ not (is_unrecorded t lists x)
unfolding record_fits
recorded-is t lists x c = rw (fits-is t x c) (tree (is_unroomed t x) (ltb t.link.lists lists))
  where
    tree : (u r : Bool) → cond (not u) (cond r true false) false ≡ not (u || not r)
    tree true r = refl
    tree false true = refl
    tree false false = refl

abbrev pub record_said : Lists.Recorded → Refusal
record_said s = refused s.stage.number s.stage.place

record-exactly : (s : Lists.Recorded) (x : List ℕ) (place : ℕ) → Chained (record_store s)
    → record_said (record_of s x place) ≡ first_refusal ((is_unrecorded (names_of s.bytes s.names s.stage.link) (length s.lists) x gives 2 at place) ∷ [])
unfolding record_of record_as keep_name
record-exactly s x place c =
    rw (recorded-is (names_of s.bytes s.names s.stage.link) (length s.lists) x c)
    (by-test (is_unrecorded (names_of s.bytes s.names s.stage.link) (length s.lists) x) (λ e. rw e) (λ e. rw e))

-- ---- symbols

abbrev pub symbol_said : Symbols.State → Refusal
symbol_said s = refused s.stage.number s.stage.place

abbrev added_said : Added → Refusal
added_said s = refused s.stage.number s.stage.place

commit-said : (s : Added) (x : List ℕ) (p : Definition) (i : ℕ) → added_said (commit_of s x p i) ≡ answered (Decide.refusal_of p.decision) p.id.0 i
unfolding commit_of Define.kept_of accept_of place_of
commit-said s x p i =
    let n = Decide.refusal_of p.decision in
    by-test (eqb n 2) (λ e. rw (e, eqb-true n 2 e))
    (λ e.
    by-test (eqb n 0) (λ f. rw (e, f))
    (λ f. rw (e, f) (by-test (eqb n 21) (λ g. rw (g, eqb-true n 21 g)) (λ g. rw g))))

module _ (o : Input) (s : Symbols.State) (i : ℕ) (c : Chained (state_store s)) where
  abbrev now : State
  now = table_at s

  abbrev binding : ℕ
  binding = cell_at o.entries i 1

  abbrev visibility : ℕ
  visibility = cell_at o.entries i 3

  abbrev here : Added
  here = Define.added_of s.bytes s.names s.symbols s.sections (going_of s.stage.link)

  -- under the id that its name has or gets
  module _ (id : ℕ) where
    abbrev row : Row
    row = external_row_of now.link.gabi (record { 0 = id }) binding visibility

    abbrev want : Asked
    want = asked_of binding visibility 0 id None defined

    row-stands : Stands row want
    unfolding external_row_of
    row-stands = record { kinds = refl; shows = shown-library now.link.gabi _; values = (refl, refl, refl, refl) }

    added-exactly : answered (Decide.refusal_of (decide_of now.link now.symbols now.sections row (holder_of now.link now.names now.symbols (record { 0 = id })))) id i
        ≡ first_refusal (shown_rules now want i ++ held_rules now want i)
    added-exactly = shown-first now row want row-stands _ id i (held_rules now want i) (λ p. held_first now row want row-stands p i)

    external-exactly : (x : List ℕ) → fits_of (store now) (record { 0 = id }) (length x) ≡ not (is_unroomed now x)
        → added_said (commit_of here x (external_of (view here) x binding visibility (record { 0 = id })) i)
        ≡ first_refusal ((is_unroomed now x gives 2 at i) ∷ shown_rules now want i ++ held_rules now want i)
    unfolding external_of rowed_of judged_of external_row_of
    external-exactly x fits =
        commit-said here x (external_of (view here) x binding visibility (record { 0 = id })) i
        ∙ first-is (is_unroomed now x) _ _ (λ f. rw (fits, f)) (λ f. rw (fits, f) added-exactly)

  define-exactly : (x : List ℕ) → added_said (define_of here x binding visibility i)
      ≡ first_refusal ((is_unroomed now x gives 2 at i) ∷ shown_rules now (want (id_in now x)) i ++ held_rules now (want (id_in now x)) i)
  unfolding define_of plan_of
  define-exactly x =
      external-exactly (find_of now.bytes now.names now.link x) x (fits-is now x c)
      ∙ ap (λ (id : ℕ). first_refusal ((is_unroomed now x gives 2 at i) ∷ shown_rules now (want id) i ++ held_rules now (want id) i)) (find-is now c x)

  named-exactly : (x : List ℕ) → symbol_said (Symbols.library_symbol_named o.entries s x i)
      ≡ first_refusal (cond (is_defined o i) ((is_unroomed now x gives 2 at i) ∷ shown_rules now (want (id_in now x)) i ++ held_rules now (want (id_in now x)) i)
      (cond (is_global o i) ((is_unrecorded now (length s.lists) x gives 2 at i) ∷ []) []))
  unfolding Symbols.library_symbol_named
  named-exactly x =
      by-test (eqb (cell_at o.entries i 4) 0)
      (λ e.
      by-test (is_global o i)
      (λ f. rw (e, f) (record-exactly (Lists.recorded_of s.bytes s.names s.lists (going_of s.stage.link)) x i c))
      (λ f. rw (e, f)))
      (λ e. rw e (define-exactly x))

  symbol-exactly : symbol_said (symbol_of o.entries o.image s i) ≡ first_refusal (symbol_rules o s i)
  unfolding symbol_of looked_of Symbols.library_symbol_named
  symbol-exactly = by-test (is_named o i) (λ e. rw e (named-exactly (bytes o i))) (λ e. rw e)

module _ (o : Input) where
  pub record Named (s : Symbols.State) (i : ℕ) : Type 0 where
    pub good : Good (state_store s)

  pub symbol-rules-numbered : (s : Symbols.State) (i : ℕ) → numbered (symbol_rules o s i) ≡ true
  symbol-rules-numbered s i = by-test (is_defined o i) (λ e. rw e) (λ e. rw e (by-test (is_global o i) (λ f. rw f) (λ f. rw f)))

  -- one of them as a loop of one
  alone : (s : Symbols.State) (i : ℕ) → (symbol_of o.entries o.image s i).stage.number ≡ 0 → symbols_from o.entries o.image (suc zero) i s ≡ symbol_of o.entries o.image s i
  unfolding symbols_from
  alone s i z = rw (eq-eqb _ _ z)

  stays : (s : Symbols.State) (i : ℕ) → Named s i → (symbol_of o.entries o.image s i).stage.number ≡ 0 → Named (symbol_of o.entries o.image s i) (i + 1)
  stays s i h z =
      record {
        good =
            subst (λ (r : Symbols.State). Good (state_store r)) (alone s i z)
            (symbols-names o.entries o.image (suc zero) i s h.good (ap (λ (r : Symbols.State). r.stage.number) (alone s i z) ∙ z)).0.good;
      }

  pub symbols-exactly : (s : Symbols.State) → Good (state_store s) → symbol_said s ≡ refused 0 0
      → symbol_said (symbols_of o.entries o.image s) ≡ first_refusal (in_turn (symbol_rules o) (symbol_of o.entries o.image) (length o.entries / 8) 0 s)
  unfolding symbols_of
  symbols-exactly s g z =
      ap symbol_said (symbols-loop o.entries o.image (length o.entries / 8) 0 s)
      ∙ stage-exactly (symbol_rules o) (symbol_of o.entries o.image) symbol_said Named symbol-rules-numbered (λ s i h. symbol-exactly o s i h.good.chained) stays
      (length o.entries / 8) 0 s (record { good = g }) z

  pub symbols-good : (s : Symbols.State) → Good (state_store s) → (symbols_of o.entries o.image s).stage.number ≡ 0 → Good (state_store (symbols_of o.entries o.image s))
  unfolding symbols_of
  symbols-good s g z = (symbols-names o.entries o.image (length o.entries / 8) 0 s g z).0.good

  -- ---- dependencies

  pub record Recorded (s : Lists.Recorded) (j : ℕ) : Type 0 where
    pub good : Good (record_store s)

  dependency-exactly : (s : Lists.Recorded) (j : ℕ) → Recorded s j → record_said (dependency_of o.image o.needs s j) ≡ first_refusal (dependency_rules o s j)
  unfolding dependency_of
  dependency-exactly s j h =
      record-exactly (Lists.recorded_of s.bytes s.names s.lists (going_of s.stage.link)) (name_at o.image (get_or o.needs j 0)) j h.good.chained

  dependency-alone : (s : Lists.Recorded) (j : ℕ) → (dependency_of o.image o.needs s j).stage.number ≡ 0
      → dependencies_from o.image o.needs (suc zero) j s ≡ dependency_of o.image o.needs s j
  unfolding dependencies_from
  dependency-alone s j z = rw (eq-eqb _ _ z)

  dependency-stays : (s : Lists.Recorded) (j : ℕ) → Recorded s j → (dependency_of o.image o.needs s j).stage.number ≡ 0
      → Recorded (dependency_of o.image o.needs s j) (j + 1)
  dependency-stays s j h z =
      record {
        good =
            subst (λ (r : Lists.Recorded). Good (record_store r)) (dependency-alone s j z)
            (dependencies-names o.image o.needs (suc zero) j s h.good (ap (λ (r : Lists.Recorded). r.stage.number) (dependency-alone s j z) ∙ z)).0.good;
      }

  pub dependencies-exactly : (s : Lists.Recorded) → Good (record_store s) → record_said s ≡ refused 0 0
      → record_said (dependencies_of o.image o.needs s) ≡ first_refusal (in_turn (dependency_rules o) (dependency_of o.image o.needs) (length o.needs) 0 s)
  unfolding dependencies_of
  dependencies-exactly s g z =
      ap record_said (dependencies-loop o.image o.needs (length o.needs) 0 s)
      ∙ stage-exactly (dependency_rules o) (dependency_of o.image o.needs) record_said Recorded (λ s j. refl) dependency-exactly dependency-stays (length o.needs) 0 s
      (record { good = g }) z
