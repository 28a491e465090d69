-- Laws of the definitions of Calls.antt.
-- Assumes nothing.
use Rattle.std.specs.Prelude.{◌≡◌, refl, List, [], ◌∷◌, ◌++◌, ◌≢◌, eqb}
use Rattle.std.proofs.Common.{sym, ap, ◌∙◌, subst, append-nil, eqb-true}
use Rattle.std.proofs.lemmas.Bool.{eqb-false}
use Rattle.cells.specs.Proof.Split.{by-test}
use Rattle.link.specs.declared.Link.{Link}
use Rattle.symbols.specs.Calls.{Left}
use Rattle.symbols.specs.Remove.{Rows, rows_of, remove_of}
use Rattle.symbol_laws.specs.History.{State, table, store, with_table, with_store, with_rows, direct, Entry, noted, Part, issue, put, put_of, id_of, part_next, part_notes, run_parts, log_parts, Call, add, intern, remove, upcoming, add_to, call_next, call_number, call_notes, run_calls, log_calls, Removes, RemovesNothing}
use Rattle.symbol_laws.proofs.History.{run-append, log-append, kept}
use Rattle.symbol_laws.proofs.Refused.{add-refused, add-accepted, intern-refused, intern-accepted, remove-refused, remove-link}
use Rattle.symbol_laws.specs.Held.{Inv}
use Rattle.symbol_laws.proofs.Put.{noted-refused, put_step}
use Rattle.symbol_laws.proofs.Issue.{issue-step}
use Rattle.symbol_laws.specs.Calls.{call_parts, history_parts}

-- a refused call leaves all
pub call-refused : (k : Call) (s : State) → call_number k s ≢ 0 → call_next k s ≡ s
call-refused (add conversion u) s z = ap (with_table s) (add-refused (table s) conversion u z)
call-refused (intern x) s z = ap (with_store s) (intern-refused (store s) x z)
call-refused (remove id) s z =
    let x : Rows = rows_of s.symbols s.sections in
    ap (λ (l : Link). with_rows s (remove_of s.link x id).rows l) (remove-link s.link x id)
    ∙ ap (λ (x : Rows). with_rows s x s.link) (remove-refused s.link x id z)

call-run : (k : Call) (s : State) → (Removes k s → ⊥) → call_next k s ≡ run_parts (call_parts k s) s
call-run (add conversion u) s q =
    by-test (eqb (call_number (add conversion u) s) 0)
    (λ a. rw a (ap (λ (o : Left). with_table s o.table) (add-accepted (table s) conversion u (eqb-true _ _ a))))
    (λ a. rw a (call-refused (add conversion u) s (eqb-false _ _ a)))
call-run (intern x) s q =
    by-test (eqb (call_number (intern x) s) 0)
    (λ a. rw a (ap (with_store s) (intern-accepted (store s) x (eqb-true _ _ a))))
    (λ a. rw a (call-refused (intern x) s (eqb-false _ _ a)))
call-run (remove id) s q = call-refused (remove id) s q

call-log : (k : Call) (s : State) → call_notes k s ≡ log_parts (call_parts k s) s
call-log (add conversion u) s =
    by-test (eqb (call_number (add conversion u) s) 0)
    (λ a.
    rw a
    (ap (λ (o : Left). noted (upcoming s conversion u) direct o.said) (add-accepted (table s) conversion u (eqb-true _ _ a))
    ∙ sym (append-nil (noted (upcoming s conversion u) direct (put_of s (upcoming s conversion u)).said))))
    (λ a. rw a (noted-refused (upcoming s conversion u) direct (add_to s conversion u).said (eqb-false _ _ a)))
call-log (intern x) s = by-test (eqb (call_number (intern x) s) 0) (λ a. rw a) (λ a. rw a)
call-log (remove id) s = refl

pub history-run : (ks : List Call) (s : State) → RemovesNothing ks s → run_calls ks s ≡ run_parts (history_parts ks s) s
history-run [] s q = refl
history-run (k ∷ ks) s q =
    history-run ks (call_next k s) q.1
    ∙ ap (run_parts (history_parts ks (call_next k s))) (call-run k s q.0)
    ∙ sym (run-append part_next part_notes (call_parts k s) (history_parts ks (call_next k s)) s)

pub history-log : (ks : List Call) (s : State) → RemovesNothing ks s → log_calls ks s ≡ log_parts (history_parts ks s) s
history-log [] s q = refl
history-log (k ∷ ks) s q =
    ap (◌++◌ (call_notes k s)) (history-log ks (call_next k s) q.1)
    ∙ ap (λ (l : List Entry). l ++ log_parts (history_parts ks (call_next k s)) (call_next k s)) (call-log k s)
    ∙ ap (λ (t : State). log_parts (call_parts k s) s ++ log_parts (history_parts ks (call_next k s)) t) (call-run k s q.0)
    ∙ sym (log-append part_next part_notes (call_parts k s) (history_parts ks (call_next k s)) s)

-- ---- what holds after every history

part_step : (p : Part) (s : State) (past : List Entry) → Inv s past → Inv (part_next p s) (past ++ part_notes p s)
part_step (issue x) s past i = subst (Inv (part_next (issue x) s)) (sym (append-nil past)) (issue-step s past i x (id_of s x))
part_step (put r from) s past i = put_step s past i r from

pub parts-keep : (ps : List Part) (s : State) (past : List Entry) → Inv s past → Inv (run_parts ps s) (past ++ log_parts ps s)
parts-keep = kept part_next part_notes Inv part_step

pub calls-keep : (ks : List Call) (s : State) (past : List Entry) → RemovesNothing ks s → Inv s past → Inv (run_calls ks s) (past ++ log_calls ks s)
calls-keep ks s past q i = rw (history-run ks s q, history-log ks s q) (parts-keep (history_parts ks s) s past i)
