-- Of a merge's symbols: each one's answer is that of its first rule that holds, over names as every link has them.
-- Assumes nothing.
use Rattle.std.specs.Prelude.{ℕ, zero, suc, ◌+◌, ◌/◌, ◌<◌, ◌≤◌, ◌≡◌, refl, Bool, true, false, cond, not, ◌&&◌, ◌||◌, List, [], ◌∷◌, ◌++◌, eqb, ltb, length, None}
use Rattle.std.proofs.Common.{arith, sym, ◌∙◌, subst, eqb-true, eq-eqb, ne_eqb, ltb-true, ltb-false}
use Rattle.std.proofs.Math.Path.{ap}
use Rattle.std.proofs.lemmas.Bool.{false≢true, eqb-false}
use Rattle.cells.specs.Proof.Split.{by-test}
use Rattle.byte_slices.specs.Bytes.{same}
use Rattle.byte_slices.specs.Proof.Ways.{same_refl, same_true}
use Rattle.link.specs.declared.cause.Refusal.{Refusal}
use Rattle.link.specs.Judge.{refused}
use Rattle.interner.specs.Names.{find_of, fits_of}
use Rattle.interner_laws.specs.Good.{Chained}
use Rattle.interner_laws.proofs.Find.{found, find-low}
use Rattle.symbol.specs.declared.Row.{Row}
use Rattle.upcoming_symbol.specs.declared.ElfSymbol.{ElfSymbol}
use Rattle.upcoming_symbol.specs.Upcoming.{conversion_from, elf_row_of}
use Rattle.symbol_resolution.specs.Decision.{Decision, Nothing, Keep}
use Rattle.symbol_resolution.specs.Holder.{holder_of}
use Rattle.symbol_resolution.specs.Decide as Decide
use Rattle.symbol_resolution.specs.Decide.{decide_of}
use Rattle.elf_object.specs.Rows as Elf
use Rattle.section_groups.specs.Filter.{section_after, discarded_at, dropped_at}
use Rattle.merge_symbols.specs.Plan.{Planned}
use Rattle.merge_symbols.specs.Plan as Plan
use Rattle.merge_symbols.specs.Plan.{input_of, filtered_at, defines_of, rule_of, judged_of, rowed_of, read_of, planned_of, place_of}
use Rattle.merge_stages.specs.Stages.{Tabled, symbol_object}
use Rattle.merge_symbols.specs.Stage as Symbols
use Rattle.merge_symbols.specs.Stage.{accept_row, kept_of, commit_of, view, looked_of, symbol_of, symbols_of}
use Rattle.symbol_laws.specs.History.{State, store}
use Rattle.merge_laws.specs.Marked.{Marked, marks_of}
use Rattle.merge_laws.proofs.MarkedLemmas.{steps-marked}
use Rattle.merge_laws.specs.MergeSteps.{symbol_steps}
use Rattle.merge_laws.proofs.SymbolStageLemmas.{symbol-makes, symbols-loop}
use Rattle.merge_laws.proofs.Profile.{makes-profile}
use Rattle.link_laws.specs.Rules.{in_turn, Rule, ◌gives◌at◌, first_refusal, numbered}
use Rattle.link_laws.proofs.Rules.{first-is, not-below}
use Rattle.link_laws.specs.TableRules.{bytes_of, Asked, conversion_in, elf_asked, shown_rules, held_rules, is_unroomed, id_among, id_in}
use Rattle.link_laws.proofs.InternExactly.{fits-is}
use Rattle.link_laws.proofs.AddExactly.{Stands, shown-same, answered, elf-reads, shown-first, held_first}
use Rattle.link_laws.specs.ObjectRules.{cell_at, is_excluded, is_named, name_in}
use Rattle.link_laws.specs.MergeRules.{Reading, is_removed_in, is_discarded, is_dropped, table_at, entry, named, bytes, is_first, is_idless, symbol_rules}
use Rattle.link_laws.proofs.MergeExactly.{stage-exactly, at_work, excluded-is}

-- ---- the id of some bytes

module _ (f : ℕ → List ℕ) (x : List ℕ) where
  id-known : (n i r : ℕ) → i ≤ r → r < i + n → f r ≡ x → ((j : ℕ) → j < r → f j ≡ x → ⊥) → id_among f x i n ≡ r
  id-known zero i r p q e u = absurd (omega arith)
  id-known (suc n) i r p q e u =
      by-test (eqb i r) (λ h. let z : i ≡ r = eqb-true _ _ h in rw (z, e, same_refl x))
      (λ h.
      let l : i < r = less (eqb-false _ _ h) p in
      by-test (same (f i) x) (λ k. absurd (u i l (same_true _ _ k))) (λ k. rw k (id-known n (i + 1) r (omega arith) (omega arith) e u)))
    where
      less : (i ≡ r → ⊥) → i ≤ r → i < r
      less v w = omega (arith, v, w)

  id-new : (n i : ℕ) → ((j : ℕ) → i ≤ j → j < i + n → f j ≡ x → ⊥) → id_among f x i n ≡ i + n
  id-new zero i u = let z : i ≡ i + 0 = omega arith in z
  id-new (suc n) i u =
      let z : i + 1 + n ≡ i + suc n = omega arith in
      by-test (same (f i) x) (λ k. absurd (u i (omega arith) (omega arith) (same_true _ _ k)))
      (λ k. rw k (id-new n (i + 1) (λ j p q. u j (omega arith) (omega arith)) ∙ z))

pub find-is : (t : State) → Chained (store t) → (x : List ℕ) → find_of t.bytes t.names t.link x ≡ id_in t x
find-is t c x =
    let r = find_of t.bytes t.names t.link x in
    let f = found (store t) x c in
    by-test (ltb r t.link.names)
    (λ e.
    let l : r < t.link.names = ltb-true _ _ e in
    sym (id-known (bytes_of t) x t.link.names 0 r (omega arith) (omega arith) (f.hit l)
    (λ j k q. let z : j ≡ r = c.distinct j r (omega arith) l (q ∙ sym (f.hit l)) in absurd (omega arith))))
    (λ e.
    let l : t.link.names ≤ r = ltb-false _ _ e in
    let m : r ≤ t.link.names = find-low (store t) x in
    let z : r ≡ 0 + t.link.names = omega arith in
    z ∙ sym (id-new (bytes_of t) x t.link.names 0 (λ j p q. f.miss l j (omega arith))))

-- ---- one symbol

abbrev pub symbol_said : Symbols.State → Refusal
symbol_said s = refused s.stage.number s.stage.place

commit-said : (s : Symbols.State) (x : List ℕ) (p : Planned) (i : ℕ) → symbol_said (commit_of s x p i) ≡ answered (Decide.refusal_of p.decision) p.id.0 i
unfolding commit_of kept_of accept_row place_of
commit-said s x p i =
    let n = Decide.refusal_of p.decision in
    by-test (eqb n 2) (λ e. rw (e, eqb-true n 2 e))
    (λ e.
    by-test (eqb n 0) (λ f. rw (e, f))
    (λ f. rw (e, f) (by-test (eqb n 21) (λ g. rw (g, eqb-true n 21 g)) (λ g. rw g))))

-- the string section and the name
pub looked-found : (headers file : List ℕ) (n offset : ℕ) → (Elf.name_in headers file n offset).found ≡ is_named headers file n offset
unfolding Elf.name_in Elf.is_loaded
looked-found headers file n offset =
    rw (not-below n (length headers / 8), excluded-is headers n)
    (by-test (ltb n (length headers / 8))
    (λ a. by-test (is_excluded headers n) (λ b. rw (a, b)) (λ b. by-test (eqb (cell_at headers n 0) 4) (λ c. rw (a, b, c)) (λ c. rw (a, b, c))))
    (λ a. rw a))

pub looked-name : (headers file : List ℕ) (n offset : ℕ) → is_named headers file n offset ≡ true → (Elf.name_in headers file n offset).name ≡ name_in headers file n offset
unfolding Elf.name_in Elf.is_loaded
looked-name headers file n offset e =
    rw (not-below n (length headers / 8), excluded-is headers n)
    (by-test (ltb n (length headers / 8))
    (λ a.
    by-test (is_excluded headers n) (λ b. absurd (false≢true (rw (a, b) at e)))
    (λ b. by-test (eqb (cell_at headers n 0) 4) (λ c. rw (a, b, c)) (λ c. absurd (false≢true (rw (a, b, c) at e)))))
    (λ a. absurd (false≢true (rw a at e))))

-- the entry after the filter
after_is : (gabi : Bool) (work : List ℕ) (s : ℕ) → section_after work s ≡ cond (is_removed_in (at_work gabi work) s) 0 s
unfolding section_after
after_is gabi work s =
    by-test (ltb s 0xff00) (λ a. rw a (by-test (eqb (cell_at work s 1) 2) (λ b. rw b) (λ b. rw b))) (λ a. rw a)

pub entry-is : (gabi : Bool) (d : Tabled) (work : List ℕ) (i : ℕ) → filtered_at d.entries work i ≡ entry (at_work gabi work) d i
entry-is gabi d work i = rw (after_is gabi work (cell_at d.entries i 4))

-- a local symbol of a removed section
pub discarded-is : (gabi : Bool) (work entries : List ℕ) (i : ℕ) → discarded_at work entries i ≡ is_discarded (at_work gabi work) entries i
unfolding discarded_at
discarded-is gabi work entries i =
    let s = cell_at entries i 4 in
    rw (after_is gabi work s)
    (by-test (eqb (cell_at entries i 1) 0)
    (λ a.
    by-test (is_removed_in (at_work gabi work) s)
    (λ b. by-test (eqb s 0) (λ c. rw (a, b, eqb-true s 0 c)) (λ c. rw (a, b, c, ne_eqb 0 s (λ (q : 0 ≡ s). eqb-false s 0 c (sym q)))))
    (λ b. by-test (eqb s 0) (λ c. rw (a, b, c, eq-eqb s s refl)) (λ c. rw (a, b, c, eq-eqb s s refl))))
    (λ a. rw a))

pub dropped-is : (gabi : Bool) (work entries : List ℕ) (i : ℕ) → dropped_at gabi work entries i ≡ is_dropped (at_work gabi work) entries i
dropped-is true work entries i = discarded-is true work entries i
dropped-is false work entries i = refl

pub first-tree : (a b c d : Bool) → cond a (cond b (cond c d false) false) false ≡ a && b && c && d
first-tree true true true d = refl
first-tree true true false d = refl
first-tree true false c d = refl
first-tree false b c d = refl

pub group-tree : (z l m : Bool) → cond z false (cond (not l) false (cond m true false)) ≡ not z && (l && m)
group-tree true l m = refl
group-tree false true true = refl
group-tree false true false = refl
group-tree false false m = refl

passed-tree : (f g h : Bool) (d : Decision) → Decide.refusal_of (cond f (Keep (record { 0 = 0 })) (cond g Nothing (cond h Nothing d))) ≡ cond (f || (g || h)) 0 (Decide.refusal_of d)
passed-tree true g h d = refl
passed-tree false true h d = refl
passed-tree false false true d = refl
passed-tree false false false d = refl

-- symbols that aren't added
passed_is : (work : List ℕ) (i : ℕ) (e : ElfSymbol) (empty : Bool) (d : Decision)
    → Decide.refusal_of (cond (Plan.is_first i empty e) (Keep (record { 0 = 0 })) (cond (eqb e.kind 4) Nothing (cond (defines_of work e.section) Nothing d)))
    ≡ cond (eqb i 0 && eqb e.section 0 && eqb e.kind 0 && empty || (eqb e.kind 4 || not (eqb e.section 0) && (ltb e.section 0xff00 && eqb (cell_at work e.section 1) 1))) 0 (Decide.refusal_of d)
unfolding Plan.is_first defines_of
passed_is work i e empty d =
    rw (
      first-tree (eqb i 0) (eqb e.section 0) (eqb e.kind 0) empty,
      not-below e.section 0xff00,
      group-tree (eqb e.section 0) (ltb e.section 0xff00) (eqb (cell_at work e.section 1) 1),
    )
    (passed-tree (eqb i 0 && eqb e.section 0 && eqb e.kind 0 && empty) (eqb e.kind 4) (not (eqb e.section 0) && (ltb e.section 0xff00 && eqb (cell_at work e.section 1) 1)) d)

module _ (d : Tabled) (work : List ℕ) (s : Symbols.State) (i : ℕ) (c : Chained (store (table_at s))) where
  abbrev o : Symbols.Object
  o = symbol_object d work

  abbrev k : Reading
  k = at_work s.stage.link.gabi work

  abbrev t : State
  t = table_at s

  -- a symbol that is added, under the id that its name has or gets
  module _ (e : ElfSymbol) (id cell file : ℕ) (empty : Bool) where
    abbrev row : Row
    row = elf_row_of (conversion_from cell) e (record { 0 = id }) empty file

    abbrev want : Asked
    want = elf_asked e id None (conversion_in cell) empty

    row-stands : Stands row want
    unfolding elf_row_of
    row-stands = record { kinds = refl; shows = shown-same _; values = elf-reads cell e empty }

    added-exactly : answered (Decide.refusal_of (decide_of t.link t.symbols t.sections row (holder_of t.link t.names t.symbols (record { 0 = id })))) id i
        ≡ first_refusal (shown_rules t want i ++ held_rules t want i)
    added-exactly = shown-first t row want row-stands _ id i (held_rules t want i) (λ p. held_first t row want row-stands p i)

  -- a symbol that is named
  module _ (x : List ℕ) where
    abbrev is_skipped : ElfSymbol → Bool
    is_skipped e =
        eqb i 0 && eqb e.section 0 && eqb e.kind 0 && eqb (length x) 0
        || (eqb e.kind 4 || not (eqb e.section 0) && (ltb e.section 0xff00 && eqb (cell_at work e.section 1) 1))

    abbrev wanted : ElfSymbol → ℕ → Asked
    wanted e id = want e id (cell_at work e.section 0) 0 (eqb (length x) 0)

    abbrev own_rules : ElfSymbol → ℕ → List Rule
    own_rules e id = (is_unroomed t x gives 2 at i) ∷ cond (is_skipped e) [] (shown_rules t (wanted e id) i ++ held_rules t (wanted e id) i)

    read-exactly : (e : ElfSymbol) (id : ℕ) → fits_of (store t) (record { 0 = id }) (length x) ≡ not (is_unroomed t x)
        → symbol_said (commit_of s x (read_of (view s) (input_of o.entries work) x i s.stage.file (record { 0 = id }) e) i) ≡ first_refusal (own_rules e id)
    unfolding read_of rowed_of judged_of rule_of elf_row_of
    read-exactly e id fits =
        commit-said s x (read_of (view s) (input_of o.entries work) x i s.stage.file (record { 0 = id }) e) i
        ∙ first-is (is_unroomed t x) _ _ (λ f. rw (fits, f))
        (λ f.
        rw (fits, f, passed_is work i e (eqb (length x) 0) (decide_of t.link t.symbols t.sections (row e id (cell_at work e.section 0) s.stage.file (eqb (length x) 0)) (holder_of t.link t.names t.symbols (record { 0 = id }))))
        (by-test (is_skipped e) (λ g. rw g)
        (λ g. rw g (added-exactly e id (cell_at work e.section 0) s.stage.file (eqb (length x) 0)))))

    named-exactly : symbol_said (Symbols.symbol_named (input_of o.entries work) s x i) ≡ first_refusal (own_rules (entry k d i) (id_in t x))
    unfolding Symbols.symbol_named planned_of
    named-exactly =
        read-exactly (filtered_at o.entries work i) (find_of t.bytes t.names t.link x) (fits-is t x c)
        ∙ ap (λ (e : ElfSymbol). first_refusal (own_rules e (find_of t.bytes t.names t.link x))) (entry-is s.stage.link.gabi d work i)
        ∙ ap (λ (id : ℕ). first_refusal (own_rules (entry k d i) id)) (find-is t c x)

  pub symbol-exactly : symbol_said (symbol_of o s i) ≡ first_refusal (symbol_rules k d i s)
  unfolding symbol_of looked_of
  symbol-exactly =
      rw (dropped-is s.stage.link.gabi work o.entries i)
      (by-test (is_dropped k d.entries i) (λ a. rw a)
      (λ a.
      rw (a, looked-found o.headers o.image o.symbol_names (cell_at o.entries i 0))
      (by-test (named k d i)
      (λ e. rw (e, looked-name o.headers o.image o.symbol_names (cell_at o.entries i 0) e) (named-exactly (bytes k d i)))
      (λ e. rw e))))

-- no rule has the number of a result
pub symbol-numbered : (k : Reading) (d : Tabled) (i : ℕ) (s : Symbols.State) → numbered (symbol_rules k d i s) ≡ true
symbol-numbered k d i s =
    by-test (is_dropped k d.entries i) (λ a. rw a) (λ a. rw a (by-test (is_first k d i || is_idless k d i) (λ e. rw e) (λ e. rw e)))

-- ---- all of them

module _ (gabi : Bool) (d : Tabled) (work : List ℕ) where
  abbrev reader : Symbols.Object
  reader = symbol_object d work

  abbrev own : Symbols.State → ℕ → List Rule
  own s i = symbol_rules (at_work gabi work) d i s

  -- names as every link has them, and the profile
  pub record Named (s : Symbols.State) (i : ℕ) : Type 0 where
    pub profile : s.stage.link.gabi ≡ gabi
    pub met : List (List ℕ)
    pub marked : Marked (table_at s) met

  stays : (s : Symbols.State) (i : ℕ) → Named s i → (symbol_said (symbol_of reader s i)).number ≡ 0 → Named (symbol_of reader s i) (i + 1)
  stays s i h z =
      let m = symbol-makes reader s i in
      record {
        profile = makes-profile (table_at s) (table_at (symbol_of reader s i)) (symbol_steps reader s i) m ∙ h.profile;
        met = h.met ++ marks_of (symbol_steps reader s i) (table_at s);
        marked =
            subst (λ (t : State). Marked t (h.met ++ marks_of (symbol_steps reader s i) (table_at s))) m.leads
            (steps-marked (symbol_steps reader s i) (table_at s) h.met m.accepted h.marked);
      }

  pub symbol-rules-numbered : (s : Symbols.State) (i : ℕ) → numbered (own s i) ≡ true
  symbol-rules-numbered s i = symbol-numbered (at_work gabi work) d i s

  one : (s : Symbols.State) (i : ℕ) → Named s i → symbol_said (symbol_of reader s i) ≡ first_refusal (own s i)
  one s i h =
      symbol-exactly d work s i h.marked.good.chained ∙ ap (λ (p : Bool). first_refusal (symbol_rules (at_work p work) d i s)) h.profile

  pub symbols-exactly : (s : Symbols.State) → Named s 0 → symbol_said s ≡ refused 0 0
      → symbol_said (symbols_of reader s) ≡ first_refusal (in_turn own (symbol_of reader) (length d.entries / 8) 0 s)
  unfolding symbols_of
  symbols-exactly s h z =
      ap symbol_said (symbols-loop reader (length d.entries / 8) 0 s)
      ∙ stage-exactly own (symbol_of reader) symbol_said Named symbol-rules-numbered one stays (length d.entries / 8) 0 s h z
