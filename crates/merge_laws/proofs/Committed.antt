-- A row that is judged before its name is issued, and then committed, is its steps.
-- Assumes nothing.
use Rattle.std.specs.Prelude.{ℕ, ◌≤◌, ◌≡◌, refl, Bool, true, false, cond, List, [], ◌∷◌, eqb, length, None}
use Rattle.std.proofs.Common.{sym, ap, ◌∙◌, subst, eqb-true}
use Rattle.cells.specs.Proof.Split.{by-test}
use Rattle.link.specs.Said.{number_in}
use Rattle.link.specs.declared.Interned.{Interned}
use Rattle.interner.specs.Names.{Store, fits_of, keep_of}
use Rattle.interner_laws.proofs.Find.{find-low}
use Rattle.symbol.specs.declared.Row.{Row}
use Rattle.symbol_resolution.specs.Decision.{Decision}
use Rattle.symbol_resolution.specs.Holder.{holder_of}
use Rattle.symbol_resolution.specs.Decide.{decide_of, refusal_of}
use Rattle.symbol_resolution.specs.Apply.{Table, apply_of}
use Rattle.symbols.specs.Add.{decided_of, committed_of, add_row_of}
use Rattle.symbol_laws.specs.History.{State, table, store, with_store, with_table, Source, issue, put, id_of}
use Rattle.merge_laws.specs.Steps.{part, Makes}
use Rattle.merge_laws.proofs.Steps.{makes_none, makes_both}
use Rattle.merge_laws.proofs.Issue.{decided-kept}
use Rattle.merge_laws.specs.MergeSteps.{row_steps}

-- an add that is decided to go
put-goes : (t : Table) (r : Row) (d : Decision) → decided_of t r None ≡ d → refusal_of d ≡ 0
    → ((add_row_of t r None).table ≡ apply_of t r d) × (number_in (add_row_of t r None).said ≡ 0)
unfolding add_row_of committed_of
put-goes t r d e z = rw (e, z) (refl, refl)

-- the row r of the name x, whose id is id, decided on as d
module _ (s : State) (x : List ℕ) (id : Interned) (r : Row) (d : Decision) where
  abbrev kept : Store
  kept = keep_of (store s) id x

  abbrev before : Decision
  before = decide_of s.link s.symbols s.sections r (holder_of s.link s.names s.symbols r.name)

  abbrev named : State
  named = with_store s kept

  -- nothing on 2; the name on another refusal; else the name and what the decision writes
  abbrev pub committed : State
  committed = cond (eqb (refusal_of d) 2) s (cond (eqb (refusal_of d) 0) (with_table named (apply_of (table named) r d)) named)

  -- a says whether the row is added
  module _ (a : Bool) where
    pub record Fair : Type 0 where
      pub found : id ≡ id_of s x
      pub own : r.name ≡ id
      pub fits : eqb (refusal_of d) 2 ≡ false → fits_of (store s) id (length x) ≡ true
      pub added : a ≡ true → eqb (refusal_of d) 2 ≡ false → d ≡ before
      pub idle : a ≡ false → eqb (refusal_of d) 2 ≡ false → (t : Table) → apply_of t r d ≡ t

    module _ (f : Fair) (two : eqb (refusal_of d) 2 ≡ false) where
      low : id.0 ≤ s.link.names
      low = rw f.found (find-low (store s) x)

      issued : Makes s (part (issue x) ∷ []) named
      issued =
          record {
            leads = ap (λ (k : Interned). with_store s (keep_of (store s) k x)) (sym f.found);
            accepted = (subst (λ (k : Interned). fits_of (store s) k (length x) ≡ true) f.found (f.fits two), tt);
          }

      pub same : decided_of (table named) r None ≡ before
      same =
          subst (λ (k : Interned). decided_of (table (with_store s (keep_of (store s) k x))) r None ≡ before) f.own
          (decided-kept (store s) x s.symbols s.sections r (rw f.own (f.fits two)) (rw f.own low))

      -- with the row of an accepted decision
      module _ (from : Source) (b : a ≡ true) (z : refusal_of d ≡ 0) where
        abbrev both : ((add_row_of (table named) r None).table ≡ apply_of (table named) r d) × (number_in (add_row_of (table named) r None).said ≡ 0)
        both = put-goes (table named) r d (same ∙ sym (f.added b two)) z

        rowed : Makes s (part (issue x) ∷ part (put r from) ∷ []) (with_table named (apply_of (table named) r d))
        rowed =
            makes_both s named _ (part (issue x) ∷ []) (part (put r from) ∷ []) issued
            (record { leads = ap (with_table named) both.0; accepted = (both.1, tt) })

    pub committed-makes : (from : Source) → Fair → Makes s (row_steps from a x r d) committed
    unfolding row_steps
    committed-makes from f =
        by-test (eqb (refusal_of d) 2) (λ t. rw t (makes_none s))
        (λ t.
        by-test (eqb (refusal_of d) 0)
        (λ z.
        by-test a (λ b. rw (t, z, b) (rowed f t from b (eqb-true _ _ z)))
        (λ b. rw (t, z, b) (subst (λ (u : Table). Makes s (part (issue x) ∷ []) (with_table named u)) (sym (f.idle b t (table named))) (issued f t))))
        (λ z. rw (t, z) (issued f t)))
