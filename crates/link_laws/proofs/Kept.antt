-- What holds after every history that removes nothing: who holds each name; and after every history: the groups' marks, the counts.
-- Assumes nothing.
use Rattle.std.specs.Prelude.{ℕ, ◌≤◌, ◌≡◌, refl, false, List, [], ◌∷◌, ◌++◌, eqb, length}
use Rattle.std.proofs.Common.{arith, sym, ◌∙◌, subst, append-nil, append_assoc}
use Rattle.std.proofs.lemmas.Bool.{false≢true}
use Rattle.cells.specs.Proof.Split.{by-test}
use Rattle.link.specs.Bounds.{not_lent}
use Rattle.symbols.specs.Remove.{Rows}
use Rattle.symbol_laws.specs.History as History
use Rattle.symbol_laws.specs.History.{State, Entry, with_rows, Part, issue, put, part_next}
use Rattle.symbol_laws.specs.Below.{Below}
use Rattle.symbol_laws.specs.Held.{Inv}
use Rattle.symbol_laws.specs.Within.{Within}
use Rattle.merge_laws.specs.Steps.{Step, log_steps}
use Rattle.merge_laws.proofs.Past.{steps-below}
use Rattle.merge_laws.proofs.Kept.{steps-keep}
use Rattle.merge_laws.specs.Marked.{marks_of, Marked}
use Rattle.merge_laws.proofs.MarkedLemmas.{steps-marked}
use Rattle.merge_laws.proofs.Markless.{marks-none}
use Rattle.load_laws.specs.LoadSteps.{load_steps}
use Rattle.load_laws.proofs.Unmarked.{load-markless}
use Rattle.merge_laws.specs.Lookups.{CountedIn}
use Rattle.merge_laws.proofs.Lookups.{steps-counted, within}
use Rattle.merge_laws.specs.Calls.{Linked}
use Rattle.link_laws.specs.Calls.{Call, intern, add, remove, add_group, merge, merge_file, load, collect, plain_collect, library_in, call_number, call_next, call_notes, run_calls, log_calls, Removes, RemovesNothing, reads, add_list, list_adds}
use Rattle.link_laws.specs.CallSteps.{call_steps, part_steps}
use Rattle.link_laws.proofs.CallSteps.{Leads, made, cleared}
use Rattle.link_laws.proofs.CallStepsLemmas.{call-makes, call-log, call-leads}
use Rattle.link_laws.proofs.Lists.{call-listed}
use Rattle.merge_laws.specs.Lists.{ListsPast}
use Rattle.merge_laws.proofs.Lists.{lists-none, lists-both}
use Rattle.symbol_laws.specs.Calls.{history_parts}
use Rattle.link_laws.specs.Kept.{call_marks, signatures, meets_groups, Reached}

-- ---- who holds each name

pub call-keep : (k : Call) (s : Linked) (past : List Entry) → (Removes k s → ⊥) → Inv s.table past → Inv (call_next k s).table (past ++ call_notes k s)
call-keep k s past q i =
    subst (λ (l : List Entry). Inv (call_next k s).table (past ++ l)) (sym (call-log k s q))
    (subst (λ (t : State). Inv t (past ++ log_steps (call_steps k s) s.table)) (call-makes k s q).leads (steps-keep (call_steps k s) s.table past i))

pub calls-keep : (ks : List Call) (s : Linked) (past : List Entry) → RemovesNothing ks s → Inv s.table past → Inv (run_calls ks s).table (past ++ log_calls ks s)
calls-keep [] s past q i = subst (Inv s.table) (sym (append-nil past)) i
calls-keep (k ∷ ks) s past q i =
    subst (Inv (run_calls ks (call_next k s)).table) (append_assoc past (call_notes k s) (log_calls ks (call_next k s)))
    (calls-keep ks (call_next k s) (past ++ call_notes k s) q.1 (call-keep k s past q.0 i))

-- ---- the signatures of the groups that were accepted, in order

direct-marks : (ks : List History.Call) (t : State) → marks_of (part_steps (history_parts ks t)) t ≡ []
direct-marks ks t = go (history_parts ks t) t
  where
    go : (ps : List Part) (t : State) → marks_of (part_steps ps) t ≡ []
    go [] t = refl
    go (issue x ∷ ps) t = go ps (part_next (issue x) t)
    go (put r from ∷ ps) t = go ps (part_next (put r from) t)

pub no-signatures : (k : Call) (s : Linked) → meets_groups k ≡ false → signatures (k ∷ []) s ≡ []
no-signatures (intern x) s q = by-test (eqb (call_number (intern x) s) 0) (λ a. rw a) (λ a. rw a)
no-signatures (reads k) s q = refl
no-signatures (add conversion u) s q = by-test (eqb (call_number (add conversion u) s) 0) (λ a. rw a) (λ a. rw a)
no-signatures (add_list conversion adds ids) s q = append-nil _ ∙ direct-marks (list_adds conversion adds ids s) s.table
no-signatures (remove id) s q = refl
no-signatures (add_group o work n) s q = absurd (false≢true (sym q))
no-signatures (merge o work ids) s q = absurd (false≢true (sym q))
no-signatures (merge_file file cells work ids) s q = absurd (false≢true (sym q))
no-signatures (load o marks) s q = append-nil _ ∙ marks-none (load_steps o (library_in s marks)) s.table (load-markless o (library_in s marks))
no-signatures (collect marks entry work) s q = refl
no-signatures (plain_collect marks entry work) s q = refl

-- names, marks and counts are as a state's whose other rows differ
rows-marked : (s : State) (x : Rows) (met : List (List ℕ)) → Marked s met → Marked (with_rows s x s.link) met
rows-marked s x met m = record { good = m.good; marks = m.marks; known = m.known }

call-marked : (k : Call) (s : Linked) (met : List (List ℕ)) → Marked s.table met → Marked (call_next k s).table (met ++ call_marks k s)
call-marked k s met m = go (call_steps k s) (call_next k s).table (call-leads k s)
  where
    go : (ks : List Step) (t : State) → Leads s.table ks t → Marked t (met ++ marks_of ks s.table)
    go ks t (made steps) = subst (λ (t : State). Marked t (met ++ marks_of ks s.table)) steps.leads (steps-marked ks s.table met steps.accepted m)
    go ks t (cleared x n e) = rw (n, e) (subst (Marked (with_rows s.table x s.table.link)) (sym (append-nil met)) (rows-marked s.table x met m))

pub calls-marked : (ks : List Call) (s : Linked) (met : List (List ℕ)) → Marked s.table met → Marked (run_calls ks s).table (met ++ signatures ks s)
calls-marked [] s met m = subst (Marked s.table) (sym (append-nil met)) m
calls-marked (k ∷ ks) s met m =
    subst (Marked (run_calls ks (call_next k s)).table) (append_assoc met (call_marks k s) (signatures ks (call_next k s)))
    (calls-marked ks (call_next k s) (met ++ call_marks k s) (call-marked k s met m))

-- ---- counts within their bounds

call-counted : (k : Call) (s : Linked) → CountedIn s.table → CountedIn (call_next k s).table
call-counted k s c = go (call_steps k s) (call_next k s).table (call-leads k s)
  where
    go : (ks : List Step) (t : State) → Leads s.table ks t → CountedIn t
    go ks t (made steps) = subst CountedIn steps.leads (steps-counted ks s.table steps.accepted c)
    go ks t (cleared x n e) = subst CountedIn (sym e) c

calls-counted : (ks : List Call) (s : Linked) → CountedIn s.table → CountedIn (run_calls ks s).table
calls-counted [] s c = c
calls-counted (k ∷ ks) s c = calls-counted ks (call_next k s) (call-counted k s c)

call_below : (k : Call) (s : Linked) → Below s.table → Below (call_next k s).table
call_below k s b = go (call_steps k s) (call_next k s).table (call-leads k s)
  where
    go : (ks : List Step) (t : State) → Leads s.table ks t → Below t
    go ks t (made steps) = subst Below steps.leads (steps-below ks s.table b)
    go ks t (cleared x n e) = subst Below (sym e) (record { few = b.few; held = b.held })

pub calls-below : (ks : List Call) (s : Linked) → Below s.table → Below (run_calls ks s).table
calls-below [] s b = b
calls-below (k ∷ ks) s b = calls-below ks (call_next k s) (call_below k s b)

-- a lent list has fewer than 2^64 cells
calls-lists : (ks : List Call) (s : Linked) → length s.lists ≤ not_lent
    → ListsPast s.lists s.table.link (run_calls ks s).lists (run_calls ks s).table.link
calls-lists [] s n = lists-none s.lists s.table.link s.table.link refl
calls-lists (k ∷ ks) s n =
    let a = (call-listed k s n).lists in
    lists-both s.lists (call_next k s).lists (run_calls ks (call_next k s)).lists s.table.link (call_next k s).table.link (run_calls ks (call_next k s)).table.link
    a (calls-lists ks (call_next k s) (omega (arith, a.long)))

-- ---- all of it

-- a link, whatever was removed from it
pub record Lasting (s : Linked) (met : List (List ℕ)) : Type 0 where
  pub marked : Marked s.table met
  pub counted : CountedIn s.table
  pub below : Below s.table
  pub lent : length s.lists ≤ not_lent
  pub inside : s.table.link.lists ≤ length s.lists

pub lasting-within : (s : Linked) (met : List (List ℕ)) → Lasting s met → Within s.table.link s.table.names
lasting-within s met r = within s.table.link s.table.names r.counted (omega (arith, r.lent, r.inside))

pub lasting-on : (ks : List Call) (s : Linked) (met : List (List ℕ)) → Lasting s met → Lasting (run_calls ks s) (met ++ signatures ks s)
lasting-on ks s met r =
    let l = calls-lists ks s r.lent in
    record {
      marked = calls-marked ks s met r.marked;
      counted = calls-counted ks s r.counted;
      below = calls-below ks s r.below;
      lent = omega (arith, l.long, r.lent);
      inside = l.inside r.inside;
    }

pub reached-within : (s : Linked) (past : List Entry) (met : List (List ℕ)) → Reached s past met → Within s.table.link s.table.names
reached-within s past met r = within s.table.link s.table.names r.counted (omega (arith, r.lent, r.inside))

pub reached-on : (ks : List Call) (s : Linked) (past : List Entry) (met : List (List ℕ)) → RemovesNothing ks s → Reached s past met
    → Reached (run_calls ks s) (past ++ log_calls ks s) (met ++ signatures ks s)
reached-on ks s past met q r =
    let l = calls-lists ks s r.lent in
    record {
      held = calls-keep ks s past q r.held;
      marked = calls-marked ks s met r.marked;
      counted = calls-counted ks s r.counted;
      lent = omega (arith, l.long, r.lent);
      inside = l.inside r.inside;
    }
