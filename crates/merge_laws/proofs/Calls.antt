-- Theorems over specs/Calls.antt.
-- Assumes nothing.
use Rattle.std.specs.Prelude.{ℕ, List, [], ◌∷◌, ◌++◌}
use Rattle.std.proofs.Common.{sym, subst, append-nil, append_assoc}
use Rattle.symbol_laws.specs.History as History
use Rattle.symbol_laws.specs.History.{State, Entry}
use Rattle.symbol_laws.specs.Held.{Inv}
use Rattle.symbol_laws.specs.Calls.{history_parts}
use Rattle.symbol_laws.proofs.Calls.{calls-keep, history-run}
use Rattle.merge_laws.specs.MergeSteps.{merge_steps}
use Rattle.merge_laws.proofs.Whole.{merge-makes}
use Rattle.merge_laws.proofs.Kept.{steps-keep}
use Rattle.merge_laws.specs.Marked.{Marked}
use Rattle.merge_laws.proofs.MarkedLemmas.{parts-marked, steps-marked}
use Rattle.merge_laws.specs.Calls.{Call, Linked, Removes, RemovesNothing, all_in, call_marks, call_next, call_notes, direct, log_calls, merge, run_calls, signatures}

-- ---- what holds after every history

pub call-keep : (k : Call) (s : Linked) (past : List Entry) → (Removes k s → ⊥) → Inv s.table past → Inv (call_next k s).table (past ++ call_notes k s)
call-keep (direct k) s past q i =
    subst (λ (l : List Entry). Inv (History.call_next k s.table) (past ++ l)) (append-nil (History.call_notes k s.table))
    (calls-keep (k ∷ []) s.table past (q, tt) i)
call-keep (merge o work ids) s past q i =
    subst (λ (t : State). Inv t (past ++ call_notes (merge o work ids) s)) (merge-makes o (all_in s work ids)).leads
    (steps-keep (merge_steps o (all_in s work ids)) s.table past i)

pub calls-keep-inv : (ks : List Call) (s : Linked) (past : List Entry) → RemovesNothing ks s → Inv s.table past
    → Inv (run_calls ks s).table (past ++ log_calls ks s)
calls-keep-inv [] s past q i = subst (Inv s.table) (sym (append-nil past)) i
calls-keep-inv (k ∷ ks) s past q i =
    subst (Inv (run_calls ks (call_next k s)).table) (append_assoc past (call_notes k s) (log_calls ks (call_next k s)))
    (calls-keep-inv ks (call_next k s) (past ++ call_notes k s) q.1 (call-keep k s past q.0 i))

call-marked : (k : Call) (s : Linked) (met : List (List ℕ)) → (Removes k s → ⊥) → Marked s.table met → Marked (call_next k s).table (met ++ call_marks k s)
call-marked (direct k) s met q m =
    subst (Marked (History.call_next k s.table)) (sym (append-nil met))
    (subst (λ (t : State). Marked t met) (sym (history-run (k ∷ []) s.table (q, tt))) (parts-marked (history_parts (k ∷ []) s.table) s.table met m))
call-marked (merge o work ids) s met q m =
    let steps = merge-makes o (all_in s work ids) in
    subst (λ (t : State). Marked t (met ++ call_marks (merge o work ids) s)) steps.leads
    (steps-marked (merge_steps o (all_in s work ids)) s.table met steps.accepted m)

pub calls-marked : (ks : List Call) (s : Linked) (met : List (List ℕ)) → RemovesNothing ks s → Marked s.table met
    → Marked (run_calls ks s).table (met ++ signatures ks s)
calls-marked [] s met q m = subst (Marked s.table) (sym (append-nil met)) m
calls-marked (k ∷ ks) s met q m =
    subst (Marked (run_calls ks (call_next k s)).table) (append_assoc met (call_marks k s) (signatures ks (call_next k s)))
    (calls-marked ks (call_next k s) (met ++ call_marks k s) q.1 (call-marked k s met q.0 m))
