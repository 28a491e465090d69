-- A second strong definition: refusal 17 exactly where the gABI sees a duplicate.
-- Assumes nothing.
use Rattle.std.specs.Prelude.{ℕ, ◌+◌, ◌≤◌, ◌<◌, List, [], ◌∷◌, ◌++◌, ◌≢◌, None}
use native.Mathlib.Omega.{arith}
use Rattle.std.proofs.Math.Path.{◌≡◌, sym, ap, subst}
use Rattle.std.proofs.Common.{◌∙◌}
use Rattle.std.proofs.Math.Bool.{true, false}
use Rattle.std.proofs.Math.Dec.{ltb}
use borrow.Author.Tests.{eqb-true, ne_eqb, ltb-true, ltb-false, lt-ltb, lt-leb}
use Rattle.link.specs.Said.{number_in}
use Rattle.cells.specs.Proof.Split.{by-test}
use Rattle.gabi.specs.SymbolTable.{Sym}
use Rattle.gabi.specs.Resolution as Gabi
use Rattle.gabi.specs.Resolution.{defined, common, duplicate, unresolved, zero_value, is_global_definition, is_common_definition, is_weak_definition, is_global_reference, has, resolve}
use Rattle.symbol.specs.declared.Row.{Row}
use Rattle.symbol.specs.Row.{scope_refused, value_refused}
use Rattle.link.specs.declared.SymbolId.{SymbolId}
use Rattle.symbol_resolution.specs.declared.rows.Holder.TheVariants.{Known}
use Rattle.symbol_resolution.specs.Decision.{Decision}
use Rattle.symbol_resolution.specs.Decide.{refusal_of}
use Rattle.symbol_resolution.specs.Proof.Outcomes.{Meets, held_rank, known_twice, seventeen-twice}
use Rattle.symbols.specs.Add.{issued_of, direct_holder_of, decided_of}
use Rattle.symbols.specs.Proof.AddOutcomes.{added-number}
use Rattle.symbol_laws.specs.Rank.{ranked, strong_definition, first_by_rank, count}
use Rattle.symbol_laws.proofs.Rank.{best-terms, best-counts, count-append, strong-rank, rank_most, rank-strong}
use Rattle.symbol_laws.proofs.Standing.{rank-after}
use Rattle.symbol_laws.proofs.View.{decided}
use Rattle.symbol_laws.specs.History.{State, table, Entry, only, rows, put_of}
use Rattle.symbol_laws.specs.Held.{Inv}
use Rattle.symbol_laws.specs.Demand.{Resolved}
use Rattle.symbol_laws.proofs.Demand.{resolved, holder_known}
use Rattle.symbol_laws.specs.Gabi.{Means, AllMean}
use Rattle.symbol_laws.proofs.Gabi.{counts, first_passes}
use Rattle.symbol_laws.proofs.Agreement.{strong-match}

-- the number answered is the decision's
pub put-number : (s : State) (r : Row) → number_in (put_of s r).said ≡ refusal_of (decided (table s) r)
put-number s r = added-number (table s) r None

-- a global add of a row that passes, under a name that has a row
module _ (s : State) (past : List Entry) (inv : Inv s past) (r : Row) (x : Entry) (xs : List Entry) (e : only r.name.0 past ≡ x ∷ xs)
    (global : r.scope ≢ 0) (fine : scope_refused r ≡ false) (valued : value_refused r ≡ false) where
  abbrev old : Row
  old = first_by_rank s.link.gabi x.row (rows xs)

  abbrev number : ℕ
  number = number_in (put_of s r).said

  found : Resolved s.link.gabi s r.name.0 x xs
  found = resolved s past inv r.name.0 x xs e

  holder : direct_holder_of s.link s.names s.symbols r.name None ≡ Known (record { 0 = x.id })
  unfolding direct_holder_of issued_of
  holder = rw (lt-leb s.link.names r.name.0 found.issued) (holder_known s past inv r.name.0 x xs e)

  abbrev id : SymbolId
  id = record { 0 = x.id }

  meets : Meets r (direct_holder_of s.link s.names s.symbols r.name None) id
  meets = record { global = ne_eqb r.scope 0 global; known = holder }

  -- neither hidden nor a size enters the rank of the row that the name has
  held-rank : held_rank s.link.gabi s.symbols id ≡ ranked s.link.gabi old
  held-rank = ap (ranked s.link.gabi) found.terms ∙ rank-after s.link.gabi (rows (x ∷ xs)) old

  pub second-strong : strong_definition r ≡ true → strong_definition old ≡ true → number ≡ 17
  unfolding decided_of
  second-strong a b =
      put-number s r
      ∙ ap (λ (d : Decision). refusal_of d)
      (known_twice s.link s.symbols s.sections r fine (direct_holder_of s.link s.names s.symbols r.name None) id meets valued
      (ap (λ (k : ℕ). ltb k (ranked s.link.gabi r)) held-rank ∙ rw (strong-rank old s.link.gabi b, strong-rank r s.link.gabi a)) (rw (strong-rank r s.link.gabi a)))

  -- 17 has no other cause
  pub seventeen : number ≡ 17 → (strong_definition r ≡ true) × (strong_definition old ≡ true)
  unfolding decided_of
  seventeen q =
      let t = seventeen-twice s.link s.symbols s.sections r (direct_holder_of s.link s.names s.symbols r.name None) fine valued (sym (put-number s r) ∙ q) in
      let a : ranked s.link.gabi r ≡ 4 = eqb-true _ _ t.strong in
      let y : ltb (ranked s.link.gabi old) (ranked s.link.gabi r) ≡ false =
      ap (λ (k : ℕ). ltb k (ranked s.link.gabi r)) (sym held-rank) ∙ subst (λ (i : SymbolId). ltb (held_rank s.link.gabi s.symbols i) (ranked s.link.gabi r) ≡ false) (one-holder t.id t.meets.known) t.stays in
      (rank-strong r s.link.gabi a, rank-strong old s.link.gabi (omega (arith, a, ltb-false (ranked s.link.gabi old) (ranked s.link.gabi r) y, rank_most old s.link.gabi)))
    where
      one-holder : (i : SymbolId) → direct_holder_of s.link s.names s.symbols r.name None ≡ Known i → i ≡ id
      one-holder i e = let p : Known i ≡ Known id = sym e ∙ holder in cc

  -- ---- the same in the gABI's terms

  module _ (first : Sym) (rest : List Sym) (mean : AllMean (x.row ∷ rows xs) (first ∷ rest)) (g : Sym) (own : Means r g) where
    abbrev more : List Sym
    more = (first ∷ rest) ++ (g ∷ [])

    abbrev strongs : ℕ
    strongs = count strong_definition (x.row ∷ rows xs)

    append-mean : (rs : List Row) (ss : List Sym) → AllMean rs ss → AllMean (rs ++ (r ∷ [])) (ss ++ (g ∷ []))
    append-mean [] [] m = (own, tt)
    append-mean [] (z ∷ ss) m = absurd m
    append-mean (z ∷ rs) [] m = absurd m
    append-mean (z ∷ rs) (y ∷ ss) m = (m.0, append-mean rs ss m.1)

    counted : Gabi.count is_global_definition more ≡ strongs + count strong_definition (r ∷ [])
    counted =
        counts strong_definition is_global_definition ((x.row ∷ rows xs) ++ (r ∷ [])) more
        (strong-match ((x.row ∷ rows xs) ++ (r ∷ [])) more (append-mean (x.row ∷ rows xs) (first ∷ rest) mean))
        ∙ count-append strong_definition (x.row ∷ rows xs) (r ∷ [])

    at_most : strongs ≤ 1
    at_most = subst (λ (l : List Entry). count strong_definition (rows l) ≤ 1) e (inv.once r.name.0)

    several : resolve more ≡ duplicate → 1 < Gabi.count is_global_definition more
    unfolding resolve
    several d =
        by-test (ltb 1 (Gabi.count is_global_definition more)) (λ a. ltb-true _ _ a)
        (λ a.
        by-test (has is_global_definition more) (λ b. absurd (at_place (rw (a, b) at d)))
        (λ b.
        by-test (has is_common_definition more) (λ m. absurd (commonly (rw (a, b, m) at d)))
        (λ m.
        by-test (has is_weak_definition more) (λ c. absurd (at_place (rw (a, b, m, c) at d)))
        (λ c.
        by-test (has is_global_reference more) (λ f. absurd (reference (rw (a, b, m, c, f) at d))) (λ f. absurd (zero-value (rw (a, b, m, c, f) at d)))))))
      where
        at_place : {k : ℕ} → defined k ≡ duplicate → ⊥
        at_place q = let z : ◌≡◌ {A = ℕ} 0 1 = cc in omega arith

        commonly : {k : ℕ} → common k ≡ duplicate → ⊥
        commonly q = let z : ◌≡◌ {A = ℕ} 0 1 = cc in omega arith

        reference : unresolved ≡ duplicate → ⊥
        reference q = let z : ◌≡◌ {A = ℕ} 0 1 = cc in omega arith

        zero-value : zero_value ≡ duplicate → ⊥
        zero-value q = let z : ◌≡◌ {A = ℕ} 0 1 = cc in omega arith

    pub duplicate-refused : resolve more ≡ duplicate → number ≡ 17
    duplicate-refused d =
        let two : 1 < strongs + count strong_definition (r ∷ []) = subst (λ (k : ℕ). 1 < k) counted (several d) in
        by-test (strong_definition r)
        (λ a.
        let one : count strong_definition (r ∷ []) ≡ 1 = rw a in
        second-strong a (first_passes strong_definition is_global_definition (x.row ∷ rows xs) _ (omega (arith, two, one))))
        (λ a. let none : count strong_definition (r ∷ []) ≡ 0 = rw a in absurd (omega (arith, two, none, at_most)))

    pub refused-duplicate : number ≡ 17 → resolve more ≡ duplicate
    unfolding resolve
    refused-duplicate q =
        let (a, b) = seventeen q in
        let one : count strong_definition (r ∷ []) ≡ 1 = rw a in
        rw (lt-ltb 1 (Gabi.count is_global_definition more) (omega (arith, counted, one, some b)))
      where
        some : strong_definition old ≡ true → 1 ≤ strongs
        some b = best-counts s.link.gabi x.row (rows xs) (ap strong_definition (best-terms s.link.gabi x.row (rows xs)) ∙ b)
