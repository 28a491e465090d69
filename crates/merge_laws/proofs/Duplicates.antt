-- A second strong definition met inside a call: what is answered to a row that is judged before its name is issued.
-- Assumes nothing.
use Rattle.std.specs.Prelude.{ℕ, ◌<◌, ◌≡◌, refl, true, false, List, [], ◌∷◌, ◌++◌, ◌≢◌, ltb, length, None}
use Rattle.std.proofs.Common.{arith, sym, ap, ◌∙◌, subst, append-nil, lt-ltb}
use Rattle.std.proofs.lemmas.Bool.{false≢true, eqb-false}
use Rattle.cells.specs.Proof.Split.{by-test}
use Rattle.link.specs.declared.Link.{Link}
use Rattle.link.specs.declared.SymbolId.{SymbolId}
use Rattle.link.specs.declared.Interned.{Interned}
use Rattle.link.specs.Said.{number_in}
use Rattle.gabi.specs.SymbolTable.{Sym}
use Rattle.gabi.specs.Resolution as Gabi
use Rattle.gabi.specs.Resolution.{defined, duplicate, unresolved, zero_value, is_global_definition, is_weak_definition, is_global_reference, has, resolve, common, is_common_definition}
use Rattle.interner.specs.Names.{fits_of, keep_of}
use Rattle.symbol.specs.declared.Row.{Row}
use Rattle.symbol.specs.Row.{scope_refused, value_refused}
use Rattle.symbol_resolution.specs.Decision.{Decision}
use Rattle.symbol_resolution.specs.Holder.{holder_of}
use Rattle.symbol_resolution.specs.declared.rows.Holder.TheVariants.{Known}
use Rattle.symbol_resolution.specs.Decide.{decide_of, refusal_of, type_refusal}
use Rattle.symbol_resolution.specs.Proof.Outcomes.{decision-number}
use Rattle.symbols.specs.Add.{decided_of}
use Rattle.symbol_laws.specs.History.{State, table, store, with_store, Entry, only, rows, issue, put_of, id_of, part_next}
use Rattle.symbol_laws.specs.Held.{Inv}
use Rattle.symbol_laws.proofs.Demand.{resolved, holder_known, holder-none}
use Rattle.symbol_laws.specs.Gabi.{Means, AllMean}
use Rattle.symbol_laws.proofs.Duplicate as Duplicate
use Rattle.merge_laws.specs.Steps.{part}
use Rattle.merge_laws.proofs.Kept.{step-keep}
use Rattle.merge_laws.proofs.Issue.{decided-kept}
use Rattle.merge_laws.proofs.Refusals.{JudgedIn, Fields, nobody-decided}
use Rattle.merge_laws.specs.Table.{one_of}

-- the row r of the name x
module _ (s : State) (x : List ℕ) (r : Row) (own : r.name ≡ id_of s x) where
  abbrev pub judged : Decision
  judged = decide_of s.link s.symbols s.sections r (holder_of s.link s.names s.symbols r.name)

  -- with the name issued
  abbrev named : State
  named = part_next (issue x) s

  -- a name that has accepted adds
  module _ (past : List Entry) (inv : Inv s past) (y : Entry) (ys : List Entry) (e : only r.name.0 past ≡ y ∷ ys) where
    issued : r.name.0 < s.link.names
    issued = (resolved s past inv r.name.0 y ys e).issued

    pub fits : fits_of (store s) r.name (length x) ≡ true
    unfolding fits_of
    fits = rw (lt-ltb r.name.0 s.link.names issued)

    -- what is judged before is what an add answers after
    judged-same : decided_of (table named) r None ≡ judged
    judged-same =
        subst (λ (k : Interned). decided_of (table (with_store s (keep_of (store s) k x))) r None ≡ judged) own
        (decided-kept (store s) x s.symbols s.sections r fits (omega (arith, issued)))

    put-judged : number_in (put_of named r).said ≡ refusal_of judged
    put-judged = Duplicate.put-number named r ∙ ap (λ (d : Decision). refusal_of d) judged-same

    named-inv : Inv named past
    named-inv = subst (Inv named) (append-nil past) (step-keep (part (issue x)) s past inv)

    module _ (global : r.scope ≢ 0) (passes : scope_refused r ≡ false) (valued : value_refused r ≡ false)
        (g : Sym) (gs : List Sym) (m : AllMean (rows (y ∷ ys)) (g ∷ gs)) (h : Sym) (mine : Means r h) where
      pub refused-duplicate : refusal_of judged ≡ 17 → resolve ((g ∷ gs) ++ (h ∷ [])) ≡ duplicate
      refused-duplicate q = Duplicate.refused-duplicate named past named-inv r y ys e global passes valued g gs m h mine (put-judged ∙ q)

      pub duplicate-refused : resolve ((g ∷ gs) ++ (h ∷ [])) ≡ duplicate → refusal_of judged ≡ 17
      duplicate-refused d = sym put-judged ∙ Duplicate.duplicate-refused named past named-inv r y ys e global passes valued g gs m h mine d

-- ---- 17 itself says that the name is held, and that the row is global and passes

-- numbers that the row's fields may give, 17 not among them
module _ (numbers : List ℕ) (other : one_of 17 numbers ≡ false) where
  not-here : (k : ℕ) → JudgedIn numbers k → k ≡ 17 → ⊥
  not-here k f q = false≢true (sym other ∙ ap (λ (n : ℕ). one_of n numbers) (sym q) ∙ f (λ z. omega arith) (λ z. omega arith))

  pub record Held (s : State) (past : List Entry) (r : Row) : Type 0 where
    pub first : Entry
    pub more : List Entry
    pub are : only r.name.0 past ≡ first ∷ more
    pub global : r.scope ≢ 0
    pub passes : scope_refused r ≡ false
    pub valued : value_refused r ≡ false

  module _ (l : Link) (symbols sections : List ℕ) (r : Row) (f : Fields numbers r) (id : SymbolId) where
    known-passes : refusal_of (decide_of l symbols sections r (Known id)) ≡ 17
        → (r.scope ≢ 0) × (scope_refused r ≡ false) × (value_refused r ≡ false)
    known-passes =
        decision-number l symbols sections r (λ (k : ℕ). k ≡ 17 → (r.scope ≢ 0) × (scope_refused r ≡ false) × (value_refused r ≡ false)) (Known id)
        (λ q. absurd (omega arith)) (λ q. absurd (omega arith)) (λ a q. absurd (omega arith)) (λ i p m q. (eqb-false _ _ m.global, p.scope, p.value))
        (λ v q. absurd (not-here r.scope (f.shown v) q)) (λ v q. absurd (not-here r.value.kind (f.valued v) q))
        (λ q. absurd (not-here (type_refusal r.kind) f.typed q))

  pub seventeen-held : (s : State) (past : List Entry) → Inv s past → (r : Row) → Fields numbers r
      → refusal_of (decide_of s.link s.symbols s.sections r (holder_of s.link s.names s.symbols r.name)) ≡ 17 → Held s past r
  seventeen-held s past inv r f q = by (only r.name.0 past) refl
    where
      by : (l : List Entry) → only r.name.0 past ≡ l → Held s past r
      by [] e =
          let h = rw (holder-none s past inv r.name.0 e) at q in
          absurd (not-here _ (nobody-decided numbers s.link s.symbols s.sections r f) h)
      by (y ∷ ys) e =
          let h = rw (holder_known s past inv r.name.0 y ys e) at q in
          let (a, b, c) = known-passes s.link s.symbols s.sections r f (record { 0 = y.id }) h in
          record { first = y; more = ys; are = e; global = a; passes = b; valued = c }

-- ---- one symbol alone is no duplicate

at_place : {k : ℕ} → defined k ≡ duplicate → ⊥
at_place q = let z : ◌≡◌ {A = ℕ} 0 1 = cc in omega arith

commonly : {k : ℕ} → common k ≡ duplicate → ⊥
commonly q = let z : ◌≡◌ {A = ℕ} 0 1 = cc in omega arith

reference : unresolved ≡ duplicate → ⊥
reference q = let z : ◌≡◌ {A = ℕ} 0 1 = cc in omega arith

zero-value : zero_value ≡ duplicate → ⊥
zero-value q = let z : ◌≡◌ {A = ℕ} 0 1 = cc in omega arith

count-alone : (g : Sym) → ltb 1 (Gabi.count is_global_definition (g ∷ [])) ≡ false
unfolding Gabi.count
count-alone g = by-test (is_global_definition g) (λ a. rw a) (λ a. rw a)

pub one-alone : (g : Sym) → resolve (g ∷ []) ≡ duplicate → ⊥
unfolding resolve
one-alone g d =
    let l : List Sym = g ∷ [] in
    let a = count-alone g in
    by-test (has is_global_definition l) (λ b. at_place (rw (a, b) at d))
    (λ b.
    by-test (has is_common_definition l) (λ m. commonly (rw (a, b, m) at d))
    (λ m.
    by-test (has is_weak_definition l) (λ c. at_place (rw (a, b, m, c) at d))
    (λ c. by-test (has is_global_reference l) (λ f. reference (rw (a, b, m, c, f) at d)) (λ f. zero-value (rw (a, b, m, c, f) at d)))))
