-- Which symbols get an id in a merge is what the object says.
-- Assumes nothing.
use Rattle.std.specs.Prelude.{ℕ, ◌+◌, ◌/◌, ◌<◌, ◌≤◌, Bool, cond, ◌&&◌, ◌||◌, ltb, set}
use native.Mathlib.Omega.{arith}
use Rattle.std.proofs.Math.Path.{◌≡◌, refl, ap}
use Rattle.std.proofs.Common.{sym, ◌∙◌, subst, length-set, get_or-set_other, get_or-set_same, eqb-true}
use Rattle.std.proofs.Math.Bool.{true, false, not}
use mathlib.Core.List.{List}
use Rattle.std.proofs.Math.Dec.{eqb}
use Rattle.std.proofs.Math.ListN.{length}
use Rattle.std.proofs.lemmas.Bool.{eqb-false}
use Rattle.cells.specs.Proof.Split.{by-test}
use Rattle.link.specs.declared.Link.{Link}
use Rattle.interner.specs.Names.{store_of, find_of, fits_of, keep_of}
use Rattle.symbol.specs.declared.Row.{Row}
use Rattle.upcoming_symbol.specs.declared.ElfSymbol.{ElfSymbol}
use Rattle.upcoming_symbol.specs.Upcoming.{conversion_from, elf_row_of}
use Rattle.symbol_resolution.specs.Decision.{Decision, Nothing, Keep}
use Rattle.symbol_resolution.specs.declared.rows.Holder.{Holder}
use Rattle.symbol_resolution.specs.Holder.{holder_of}
use Rattle.symbol_resolution.specs.Decide as Decide
use Rattle.symbol_resolution.specs.Decide.{decide_of}
use Rattle.symbol_resolution.specs.Proof.Outcomes.{Ended, ended}
use Rattle.elf_object.specs.Rows as Elf
use Rattle.merge_symbols.specs.Plan.{Planned}
use Rattle.merge_symbols.specs.Plan as Plan
use Rattle.merge_symbols.specs.Plan.{input_of, filtered_at, defines_of, rule_of, judged_of, rowed_of, read_of, planned_of}
use Rattle.merge_stages.specs.Stages.{Tabled, symbol_object}
use Rattle.merge_symbols.specs.Stage as Symbols
use Rattle.merge_symbols.specs.Stage.{cell_of, accept_row, kept_of, commit_of, view, looked_of, symbol_of, symbols_of}
use Rattle.section_groups.specs.Filter.{dropped_at}
use Rattle.merge_laws.specs.MergeSteps.{symbol_steps}
use Rattle.merge_laws.proofs.SymbolStageLemmas.{symbol-makes, symbols-loop}
use Rattle.merge_laws.proofs.Profile.{makes-profile}
use Rattle.link_laws.proofs.Rules.{not-below}
use Rattle.link_laws.specs.ObjectRules.{cell_at}
use Rattle.link_laws.specs.MergeRules.{Reading, is_dropped, table_at, bytes, is_first, is_idless}
use Rattle.link_laws.proofs.MergeExactly.{at_work, identified_by, next-some}
use Rattle.link_laws.proofs.MergeSymbols.{looked-found, looked-name, entry-is, dropped-is, first-tree, group-tree}
use Rattle.link_laws.proofs.MergeReading.{loop-keeps}

-- ---- a decision that is accepted has an id

module _ (c : ℕ) where
  abbrev Ided : Decision → Type 0
  Ided d = Decide.refusal_of d ≡ 0 → eqb (cell_of d c) 0 ≡ false

  decide-ided : (l : Link) (symbols sections : List ℕ) (r : Row) (h : Holder) → Ided (decide_of l symbols sections r h)
  decide-ided l symbols sections r h = by (decide_of l symbols sections r h) (ended l symbols sections r h)
    where
      by : (d : Decision) → Ended l symbols sections r d → Ided d
      by d (Ended.refused n u q) = subst Ided (sym q) (λ e. absurd (u e))
      by d (Ended.kept id p q) = subst Ided (sym q) (λ e. next-some id.0)
      by d (Ended.appended p m q) = subst Ided (sym q) (λ e. next-some c)
      by d (Ended.replaced id p q) = subst Ided (sym q) (λ e. next-some id.0)
      by d (Ended.amended id p q) = subst Ided (sym q) (λ e. next-some id.0)

-- ---- one symbol

module _ (gabi : Bool) (d : Tabled) (work : List ℕ) where
  abbrev k : Reading
  k = at_work gabi work

  abbrev o : Symbols.Object
  o = symbol_object d work

  abbrev identified : ℕ → Bool
  identified i = not (is_dropped k d.entries i) && (is_first k d i || not (is_idless k d i))

  -- the cell that an accepted decision leaves
  rule-cell : (l : Link) (names symbols sections : List ℕ) (i c : ℕ) (empty : Bool) (e : ElfSymbol) (r : Row) → Decide.refusal_of (rule_of l names symbols sections work i empty e r) ≡ 0
      → not (eqb (cell_of (rule_of l names symbols sections work i empty e r) c) 0)
      ≡ eqb i 0 && eqb e.section 0 && eqb e.kind 0 && empty || not (eqb e.kind 4 || not (eqb e.section 0) && (ltb e.section 0xff00 && eqb (cell_at work e.section 1) 1))
  unfolding rule_of Plan.is_first defines_of
  rule-cell l names symbols sections i c empty e r z =
      let h = holder_of l names symbols r.name in
      let f = eqb i 0 && eqb e.section 0 && eqb e.kind 0 && empty in
      let g = not (eqb e.section 0) && (ltb e.section 0xff00 && eqb (cell_at work e.section 1) 1) in
      let q = first-tree (eqb i 0) (eqb e.section 0) (eqb e.kind 0) empty in
      let p = group-tree (eqb e.section 0) (ltb e.section 0xff00) (eqb (cell_at work e.section 1) 1) in
      let n = not-below e.section 0xff00 in
      rw (q, n, p) (tree f (eqb e.kind 4) g (decide_of l symbols sections r h) (λ y. decide-ided c l symbols sections r h y) (rw (q, n, p) at z))
    where
      tree : (f t g : Bool) (x : Decision) → (Decide.refusal_of x ≡ 0 → eqb (cell_of x c) 0 ≡ false)
          → Decide.refusal_of (cond f (Keep (record { 0 = 0 })) (cond t Nothing (cond g Nothing x))) ≡ 0
          → not (eqb (cell_of (cond f (Keep (record { 0 = 0 })) (cond t Nothing (cond g Nothing x))) c) 0) ≡ f || not (t || g)
      tree true t g x h e = ap not (next-some 0)
      tree false true g x h e = refl
      tree false false true x h e = refl
      tree false false false x h e = ap not (h e)

  abbrev id_on : ℕ → Bool → ElfSymbol → Bool
  id_on i empty e =
      eqb i 0 && eqb e.section 0 && eqb e.kind 0 && empty
      || not (eqb e.kind 4 || not (eqb e.section 0) && (ltb e.section 0xff00 && eqb (cell_at work e.section 1) 1))

  module _ (s : Symbols.State) (i : ℕ) where
    abbrev plan_for : List ℕ → Planned
    plan_for x = planned_of (view s) (input_of d.entries work) x i s.stage.file

    plan-cell : (x : List ℕ) (c : ℕ) → Decide.refusal_of (plan_for x).decision ≡ 0
        → not (eqb (cell_of (plan_for x).decision c) 0) ≡ id_on i (eqb (length x) 0) (filtered_at d.entries work i)
    unfolding planned_of read_of rowed_of judged_of
    plan-cell x c z =
        let id = find_of s.bytes s.names s.stage.link x in
        let e = filtered_at d.entries work i in
        let r = elf_row_of (conversion_from (cell_at work e.section 0)) e (record { 0 = id }) (eqb (length x) 0) s.stage.file in
        by-test (fits_of (store_of s.bytes s.names s.stage.link) r.name (length x))
        (λ f. rw f (rule-cell s.stage.link s.names s.symbols s.sections i c (eqb (length x) 0) e r (rw f at z)))
        (λ f. let q : ◌≡◌ {A = ℕ} 2 0 = rw f at z in absurd (omega arith))

    -- an accepted symbol's cell
    pub record Cell (after : List ℕ) : Type 0 where
      pub cell : ℕ
      pub is : after ≡ set s.ids i cell
      pub says : not (eqb cell 0) ≡ identified i

    commit-cell : (x : List ℕ) (p : Planned) → (commit_of s x p i).stage.number ≡ 0
        → (Decide.refusal_of p.decision ≡ 0) × ((commit_of s x p i).ids ≡ set s.ids i (cell_of p.decision (keep_of (store_of s.bytes s.names s.stage.link) p.id x).link.symbols))
    unfolding commit_of kept_of accept_row
    commit-cell x p z =
        by-test (eqb (Decide.refusal_of p.decision) 2) (λ e. let q : ◌≡◌ {A = ℕ} 2 0 = rw e at z in absurd (omega arith))
        (λ e.
        by-test (eqb (Decide.refusal_of p.decision) 0) (λ f. (eqb-true _ _ f, rw (e, f))) (λ f. absurd (eqb-false _ _ f (rw (e, f) at z))))

    kept-cell : is_dropped k d.entries i ≡ false → (looked_of o s i (Elf.name_in d.headers d.image (cell_at d.headers d.table 3) (cell_at d.entries i 0))).stage.number ≡ 0
        → Cell (looked_of o s i (Elf.name_in d.headers d.image (cell_at d.headers d.table 3) (cell_at d.entries i 0))).ids
    unfolding looked_of Symbols.symbol_named
    kept-cell a z =
        let x = Elf.name_in d.headers d.image (cell_at d.headers d.table 3) (cell_at d.entries i 0) in
        let f = looked-found d.headers d.image (cell_at d.headers d.table 3) (cell_at d.entries i 0) in
        by-test x.found
        (λ e.
        let n : x.name ≡ bytes k d i = looked-name d.headers d.image (cell_at d.headers d.table 3) (cell_at d.entries i 0) (sym f ∙ e) in
        let c = commit-cell x.name (plan_for x.name) (rw e at z) in
        rw e
        (record {
          cell = _;
          is = c.1;
          says =
              rw a
              (plan-cell x.name _ c.0
              ∙ ap (λ (y : List ℕ). id_on i (eqb (length y) 0) (filtered_at d.entries work i)) n
              ∙ ap (id_on i (eqb (length (bytes k d i)) 0)) (entry-is gabi d work i));
        }))
        (λ e. let q : ◌≡◌ {A = ℕ} 9 0 = rw e at z in absurd (omega arith))

    symbol-cell : s.stage.link.gabi ≡ gabi → (symbol_of o s i).stage.number ≡ 0 → Cell (symbol_of o s i).ids
    unfolding symbol_of
    symbol-cell p z =
        let q : dropped_at s.stage.link.gabi work d.entries i ≡ is_dropped k d.entries i = ap (λ (g : Bool). dropped_at g work d.entries i) p ∙ dropped-is gabi work d.entries i in
        by-test (is_dropped k d.entries i) (λ a. rw (q, a) (record { cell = 0; is = refl; says = rw a })) (λ a. rw (q, a) (kept-cell a (rw (q, a) at z)))

  -- ---- all of them

  module _ (long : ℕ) where
    pub record Ids (s : Symbols.State) (i : ℕ) : Type 0 where
      pub ids-long : length s.ids ≡ long
      pub profile : s.stage.link.gabi ≡ gabi
      pub says : (j : ℕ) → j < i → identified_by s.ids j ≡ identified j

    ids_next : (s : Symbols.State) (i : ℕ) → i < long → Ids s i → (symbol_of o s i).stage.number ≡ 0 → Ids (symbol_of o s i) (i + 1)
    ids_next s i l h z =
        let c = symbol-cell s i h.profile z in
        record {
          ids-long = ap length c.is ∙ length-set s.ids i c.cell ∙ h.ids-long;
          profile = makes-profile (table_at s) (table_at (symbol_of o s i)) (symbol_steps o s i) (symbol-makes o s i) ∙ h.profile;
          says =
              λ j q.
              by-test (eqb j i)
              (λ e.
              let p : j ≡ i = eqb-true _ _ e in
              ap (λ (v : List ℕ). identified_by v j) c.is ∙ ap (identified_by (set s.ids i c.cell)) p
              ∙ ap (λ (v : ℕ). not (eqb v 0)) (get_or-set_same s.ids i c.cell 0 (omega (arith, h.ids-long))) ∙ c.says ∙ ap identified (sym p))
              (λ e.
              let u : j ≡ i → ⊥ = eqb-false _ _ e in
              ap (λ (v : List ℕ). identified_by v j) c.is
              ∙ ap (λ (v : ℕ). not (eqb v 0)) (get_or-set_other s.ids i j c.cell 0 (λ q. u q)) ∙ h.says j (omega (arith, u)));
        }

    pub all_ids : (s : Symbols.State) → s.stage.link.gabi ≡ gabi → length d.entries / 8 ≤ long → length s.ids ≡ long → (symbols_of o s).stage.number ≡ 0
        → (j : ℕ) → j < length d.entries / 8 → identified_by (symbols_of o s).ids j ≡ identified j
    unfolding symbols_of
    all_ids s p lent e z =
        let n = length d.entries / 8 in
        let q = symbols-loop o n 0 s in
        let none : 0 + n ≡ n = omega arith in
        λ j l.
        ap (λ (r : Symbols.State). identified_by r.ids j) q
        ∙ (loop-keeps (λ (r : Symbols.State). r.stage.number) (symbol_of o) Ids n (λ r i l h z. ids_next r i (omega arith) h z) n 0 s (omega arith)
        (record { ids-long = e; profile = p; says = λ j p. absurd (omega arith) }) (ap (λ (r : Symbols.State). r.stage.number) (sym q) ∙ z)).says j (omega arith)
