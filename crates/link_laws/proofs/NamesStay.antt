-- Names, over every history: an id once given stands for its bytes for ever, and no two ids for the same bytes.
-- Assumes nothing.
use Rattle.std.specs.Prelude.{ℕ, ◌≡◌, List, [], ◌∷◌, ◌++◌, ◌↔◌}
use Rattle.std.proofs.Common.{sym, subst}
use Rattle.interner.specs.Calls.{resolved}
use Rattle.interner_laws.specs.Good.{Good, Issued, Stays, count, name}
use Rattle.interner_laws.proofs.Histories.{stays-none, stays-both, issued-stays, one-id, one_name}
use Rattle.interner_laws.specs.Interns.{Accepted, id}
use Rattle.interner_laws.proofs.Interns.{intern-stays, intern-good, intern-issued}
use Rattle.interner_laws.proofs.Judged as Judged
use Rattle.symbol_laws.specs.History.{State, store}
use Rattle.merge_laws.specs.Steps.{Step}
use Rattle.merge_laws.specs.Marked.{Marked}
use Rattle.merge_laws.proofs.NamesOn.{steps-stay}
use Rattle.merge_laws.specs.Calls.{Linked}
use Rattle.link_laws.specs.Calls.{Call, intern, resolve, call_left, call_next, run_calls}
use Rattle.link_laws.specs.CallSteps.{call_steps}
use Rattle.link_laws.proofs.CallSteps.{Leads, made, cleared}
use Rattle.link_laws.proofs.CallStepsLemmas.{call-leads}
use Rattle.link_laws.specs.Kept.{signatures}
use Rattle.link_laws.proofs.Kept.{calls-marked, Lasting, lasting-within, lasting-on}

-- ---- every history

-- what is written beside names and their counts leaves where they lie
call_stays : (k : Call) (s : Linked) (met : List (List ℕ)) → Marked s.table met → Stays (store s.table) (store (call_next k s).table)
call_stays k s met m = go (call_steps k s) (call_next k s).table (call-leads k s)
  where
    go : (ks : List Step) (t : State) → Leads s.table ks t → Stays (store s.table) (store t)
    go ks t (made steps) = subst (λ (t : State). Stays (store s.table) (store t)) steps.leads (steps-stay ks s.table met steps.accepted m)
    go ks t (cleared x n e) = subst (λ (t : State). Stays (store s.table) (store t)) (sym e) (stays-none count name (store s.table))

pub calls-stay : (ks : List Call) (s : Linked) (met : List (List ℕ)) → Marked s.table met → Stays (store s.table) (store (run_calls ks s).table)
calls-stay [] s met m = stays-none count name (store s.table)
calls-stay (k ∷ ks) s met m =
    stays-both count name (store s.table) (store (call_next k s).table) (store (run_calls ks (call_next k s)).table) (call_stays k s met m)
    (calls-stay ks (call_next k s) (met ++ signatures (k ∷ []) s) (calls-marked (k ∷ []) s met m))

-- ---- ids

module _ (s : Linked) (met : List (List ℕ)) (m : Marked s.table met) (x : List ℕ) (ok : Accepted (call_left (intern x) s)) (ls : List Call) where
  abbrev pub on : Linked
  on = run_calls ls (call_next (intern x) s)

  abbrev pub given : ℕ
  given = id (call_left (intern x) s)

  on-marked : Marked on.table ((met ++ signatures (intern x ∷ []) s) ++ signatures ls (call_next (intern x) s))
  on-marked = calls-marked ls (call_next (intern x) s) (met ++ signatures (intern x ∷ []) s) (calls-marked (intern x ∷ []) s met m)

  on-issued : Issued (store on.table) given x
  on-issued =
      issued-stays count name (call_left (intern x) s).store (store on.table) given x
      (calls-stay ls (call_next (intern x) s) (met ++ signatures (intern x ∷ []) s) (calls-marked (intern x ∷ []) s met m))
      (intern-issued (store s.table) x m.good ok)

  pub one-id-one-name : (y : List ℕ) → Accepted (call_left (intern y) on) → (given ≡ id (call_left (intern y) on)) ↔ (x ≡ y)
  one-id-one-name y ok' =
      let g : Good (store on.table) = on-marked.good in
      let end = (intern-good (store on.table) y g).chained.distinct in
      let later = call_left (intern y) on in
      let p : Issued later.store given x = issued-stays count name (store on.table) later.store given x (intern-stays (store on.table) y g) on-issued in
      let q : Issued later.store (id later) y = intern-issued (store on.table) y g ok' in
      (one_name count name later.store end given (id later) x y p q, one-id count name later.store end given (id later) x y p q)

  pub resolves-on : Lasting s met → call_left (resolve (record { 0 = given })) on ≡ resolved x 0 0
  resolves-on r =
      let h = lasting-on ls (call_next (intern x) s) _ (lasting-on (intern x ∷ []) s met r) in
      let w = lasting-within on _ h in
      Judged.resolves (store on.table) on-marked.good
      (record {
        sections-in = w.sections-in;
        symbols-in = h.below.few;
        inputs_in = w.inputs_in;
        lists-in = w.lists-in;
      })
      given x on-issued
