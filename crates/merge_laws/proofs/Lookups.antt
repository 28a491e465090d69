-- Counts within their bounds, over every history: a lookup is never refused with 1.
-- Assumes nothing.
use Rattle.std.specs.Prelude.{ℕ, ◌+◌, ◌-◌, ◌*◌, ◌≤◌, ◌≡◌, refl, Bool, true, List, [], ◌∷◌, eqb, ltb, leb, length, None}
use Rattle.std.proofs.Common.{arith, sym, ap, ◌∙◌, subst, length-set, ltb-false}
use Rattle.std.proofs.lemmas.Bool.{false≢true}
use Rattle.cells.specs.Proof.Split.{by-test}
use Rattle.link.specs.declared.Link.{Link}
use Rattle.link.specs.Bounds.{not_lent, lesser, name_rows, name_bytes, symbol_rows}
use Rattle.link.specs.Counts.{no_names}
use Rattle.interner.specs.Hash.{head_of}
use Rattle.interner.specs.Names.{Store, store_of, room_of}
use Rattle.interner.specs.Calls as Names
use Rattle.symbols.specs.New.{null_of, new_of}
use Rattle.interner_laws.proofs.Written.{linked_long}
use Rattle.symbol.specs.declared.Row.{Row}
use Rattle.symbol_resolution.specs.Decision.{Decision}
use Rattle.symbol_resolution.specs.Apply.{Table, note_name, append_of, apply_of}
use Rattle.symbol_resolution.specs.Proof.Outcomes.{decision-left}
use Rattle.symbols.specs.Add.{add_row_of, decided_of}
use Rattle.symbols.specs.Proof.AddOutcomes.{added-left}
use Rattle.symbol_laws.proofs.View.{lesser-first}
use Rattle.symbol_laws.specs.Within.{Within}
use Rattle.symbol_laws.specs.Calls.{history_parts}
use Rattle.symbol_laws.proofs.Calls.{history-run}
use Rattle.symbol_laws.specs.History as History
use Rattle.symbol_laws.specs.History.{State, table, store, Part, issue, put, id_of, part_next, run_parts}
use Rattle.symbol_laws.proofs.Issue.{room-free}
use Rattle.merge_laws.specs.Steps.{Step, part, mark, others, step_next, Goes, AllGo, run_steps}
use Rattle.merge_laws.specs.MergeSteps.{merge_steps}
use Rattle.merge_laws.proofs.Whole.{merge-makes}
use Rattle.merge_laws.proofs.Issue.{keeps}
use Rattle.merge_laws.proofs.SymbolStageLemmas.{applied-count}
use Rattle.merge_laws.proofs.Lists.{keep-lists, merge-left}
use Rattle.merge_laws.specs.Calls.{Linked, all_in, Call, direct, merge, call_next, run_calls, Removes, RemovesNothing}
use Rattle.merge_laws.specs.Lookups.{Counted, CountedIn}

-- ---- a name issued

room-bytes : (s : Store) (n : ℕ) → room_of s n ≡ true → s.link.bytes + n ≤ 1048576
unfolding room_of
room-bytes s n e =
    by-test (ltb (name_rows (length s.names)) s.link.chains) (λ z. absurd (false≢true (rw z at e)))
    (λ z.
    by-test (leb s.link.chains s.link.names) (λ a. absurd (false≢true (rw (z, a) at e)))
    (λ a.
    by-test (ltb (name_bytes (length s.bytes)) s.link.bytes) (λ b. absurd (false≢true (rw (z, a, b) at e)))
    (λ b.
    by-test (ltb (name_bytes (length s.bytes) - s.link.bytes) n) (λ c. absurd (false≢true (rw (z, a, b, c) at e)))
    (λ c.
    let h : s.link.bytes ≤ lesser 1048576 (length s.bytes) = ltb-false _ _ b in
    let k : n ≤ lesser 1048576 (length s.bytes) - s.link.bytes = ltb-false _ _ c in
    let m : lesser 1048576 (length s.bytes) ≤ 1048576 = lesser-first _ _ in
    omega arith))))

issue-counted : (s : State) (x : List ℕ) → CountedIn s → CountedIn (part_next (issue x) s)
issue-counted s x c =
    keeps (λ (k : Store). Counted k.link k.names) (store s) (id_of s x) x c
    (λ h r.
    record {
      bytes-in = room-bytes (store s) (length x) r;
      bounded = c.bounded;
      names_in = omega (arith, (room-free (store s) (length x) r).free);
      chains-lent = rw (linked_long s.names s.link.names s.link.bytes (length x) (head_of s.link s.names x)) c.chains-lent;
    })

-- ---- a row added

noted-long : (names : List ℕ) (r : Row) (id : ℕ) → length (note_name names r id) ≡ length names
unfolding note_name
noted-long names r id = by-test (eqb r.scope 0) (λ a. rw a) (λ a. rw a (length-set names (r.name.0 * 8 + 3) id))

applied-counted : (t : Table) (r : Row) (d : Decision) → Counted t.link t.names → Counted (apply_of t r d).link (apply_of t r d).names
unfolding append_of
applied-counted t r d c =
    decision-left (λ (u : Table). Counted u.link u.names) t r c
    (record {
      bytes-in = c.bytes-in;
      bounded = c.bounded;
      names_in = c.names_in;
      chains-lent = rw (noted-long t.names r t.link.symbols) c.chains-lent;
    })
    (λ id x. c) d

put-counted : (t : Table) (r : Row) → Counted t.link t.names → Counted (add_row_of t r None).table.link (add_row_of t r None).table.names
put-counted t r c = added-left t r None (λ (u : Table). Counted u.link u.names) c (applied-counted t r (decided_of t r None) c)

part-counted : (p : Part) (s : State) → CountedIn s → CountedIn (part_next p s)
part-counted (issue x) s c = issue-counted s x c
part-counted (put r from) s c = put-counted (table s) r c

parts-counted : (ps : List Part) (s : State) → CountedIn s → CountedIn (run_parts ps s)
parts-counted [] s c = c
parts-counted (p ∷ ps) s c = parts-counted ps (part_next p s) (part-counted p s c)

-- ---- steps and calls

step-counted : (k : Step) (s : State) → Goes k s → CountedIn s → CountedIn (step_next k s)
step-counted (part p) s g c = part-counted p s c
step-counted (mark n) s g c =
    record {
      bytes-in = c.bytes-in;
      bounded = c.bounded;
      names_in = c.names_in;
      chains-lent = rw (length-set s.names (n * 8 + 4) 1) c.chains-lent;
    }
step-counted (others x l) s g c = record { bytes-in = c.bytes-in; bounded = g.3 c.bounded; names_in = c.names_in; chains-lent = c.chains-lent }

pub steps-counted : (ks : List Step) (s : State) → AllGo ks s → CountedIn s → CountedIn (run_steps ks s)
steps-counted [] s g c = c
steps-counted (k ∷ ks) s g c = steps-counted ks (step_next k s) g.1 (step-counted k s g.0 c)

call-counted : (k : Call) (s : Linked) → (Removes k s → ⊥) → CountedIn s.table → CountedIn (call_next k s).table
call-counted (direct k) s q c =
    subst CountedIn (sym (history-run (k ∷ []) s.table (q, tt))) (parts-counted (history_parts (k ∷ []) s.table) s.table c)
call-counted (merge o work ids) s q c =
    let steps = merge-makes o (all_in s work ids) in
    subst CountedIn steps.leads (steps-counted (merge_steps o (all_in s work ids)) s.table steps.accepted c)

calls-counted : (ks : List Call) (s : Linked) → RemovesNothing ks s → CountedIn s.table → CountedIn (run_calls ks s).table
calls-counted [] s q c = c
calls-counted (k ∷ ks) s q c = calls-counted ks (call_next k s) q.1 (call-counted k s q.0 c)

pub counted : (l : Link) (names : List ℕ) → Within l names → Counted l names
counted l names w = record { bytes-in = w.bytes-in; bounded = (w.sections-in, w.inputs_in); names_in = w.names_in; chains-lent = w.chains-lent }

pub within : (l : Link) (names : List ℕ) → Counted l names → l.lists ≤ not_lent → Within l names
within l names c h =
    record {
      bytes-in = c.bytes-in;
      sections-in = c.bounded.0;
      inputs_in = c.bounded.1;
      lists-in = h;
      names_in = c.names_in;
      chains-lent = c.chains-lent;
    }

-- ---- the count of the lists

put-lists : (t : Table) (r : Row) → (add_row_of t r None).table.link.lists ≡ t.link.lists
put-lists t r =
    added-left t r None (λ (u : Table). u.link.lists ≡ t.link.lists) refl
    (applied-count (λ (l : Link). l.lists) keep-lists (λ l n. refl) t r (decided_of t r None))

part-lists : (p : Part) (s : State) → (part_next p s).link.lists ≡ s.link.lists
part-lists (issue x) s = keep-lists (store s) (id_of s x) x
part-lists (put r from) s = put-lists (table s) r

parts-lists : (ps : List Part) (s : State) → (run_parts ps s).link.lists ≡ s.link.lists
parts-lists [] s = refl
parts-lists (p ∷ ps) s = parts-lists ps (part_next p s) ∙ part-lists p s

-- no more are counted than are lent
record ListsIn (s t : Linked) : Type 0 where
  long : length t.lists ≡ length s.lists
  inside : s.table.link.lists ≤ length s.lists → t.table.link.lists ≤ length t.lists

call-lists : (k : Call) (s : Linked) → (Removes k s → ⊥) → ListsIn s (call_next k s)
call-lists (direct k) s q =
    let e : (History.call_next k s.table).link.lists ≡ s.table.link.lists =
    ap (λ (t : State). t.link.lists) (history-run (k ∷ []) s.table (q, tt)) ∙ parts-lists (history_parts (k ∷ []) s.table) s.table in
    record { long = refl; inside = λ h. omega arith }
call-lists (merge o work ids) s q = let b = (merge-left o (all_in s work ids)).lists in record { long = b.long; inside = b.inside }

calls-lists : (ks : List Call) (s : Linked) → RemovesNothing ks s → ListsIn s (run_calls ks s)
calls-lists [] s q = record { long = refl; inside = λ h. h }
calls-lists (k ∷ ks) s q =
    let a = call-lists k s q.0 in
    let b = calls-lists ks (call_next k s) q.1 in
    record { long = b.long ∙ a.long; inside = λ h. b.inside (a.inside h) }

-- every count is within its bound
pub calls-within : (ks : List Call) (s : Linked) → RemovesNothing ks s → Within s.table.link s.table.names → s.table.link.lists ≤ length s.lists
    → length s.lists ≤ not_lent → Within (run_calls ks s).table.link (run_calls ks s).table.names
calls-within ks s q w h n =
    let a = calls-lists ks s q in
    let i = a.inside h in
    within (run_calls ks s).table.link (run_calls ks s).table.names (calls-counted ks s q (counted s.table.link s.table.names w)) (omega (arith, a.long))

-- a new table counts none
null-lists : (gabi : Bool) (symbols sections : List ℕ) (s : Store) → (null_of gabi symbols sections s).table.link.lists ≡ s.link.lists
unfolding null_of
null-lists gabi symbols sections s = by-test (eqb s.link.names 0) (λ a. rw a) (λ a. rw a)

names-lists : (key : ℕ) (bytes names : List ℕ) → (Names.new_of key bytes names).store.link.lists ≡ 0
unfolding Names.new_of
names-lists key bytes names =
    by-test (eqb (name_rows (length names)) 0) (λ a. rw a)
    (λ a. rw a (keep-lists (store_of bytes (Names.clear_heads names) (no_names key (name_rows (length names)))) (record { 0 = 0 }) []))

pub new-lists : (key : ℕ) (gabi : Bool) (bytes names symbols sections lists : List ℕ) → (new_of key gabi bytes names symbols sections).table.link.lists ≤ length lists
unfolding new_of
new-lists key gabi bytes names symbols sections lists =
    by-test (eqb (symbol_rows (length symbols)) 0) (λ a. rw a (omega arith))
    (λ a. rw a (omega (arith, null-lists gabi symbols sections (Names.new_of key bytes names).store, names-lists key bytes names)))
