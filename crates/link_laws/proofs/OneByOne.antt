-- Request 2026-05: "The table, ids and refusal equal those of adding one by one and stopping at the first refused add; that add's position is returned."
-- Assumes nothing.
use Rattle.link.specs.declared.Interned.{Interned}
use Rattle.std.specs.Prelude.{ℕ, ◌+◌, ◌<◌, ◌≤◌, ◌≡◌, true, false, eqb, set, length, Option}
use native.Mathlib.Omega.{arith}
use Rattle.std.proofs.Math.Path.{refl, ap}
use Rattle.std.proofs.Common.{sym, ◌∙◌, eqb-true, le-ltb, lt-ltb}
use mathlib.Core.List.{List, [], ◌∷◌, ◌++◌, append-nil}
use Rattle.std.proofs.lemmas.Bool.{eqb-false}
use Rattle.cells.specs.Proof.Split.{by-test}
use Rattle.byte_slices.specs.Proof.Ways.{pick}
use Rattle.link.specs.Judge.{refused, none}
use Rattle.link.specs.Said.{Said, accepted, refusing, number_in, value_in}
use Rattle.symbol.specs.declared.Row.{Row}
use Rattle.upcoming_symbol.specs.declared.UpcomingSymbol.{UpcomingSymbol}
use Rattle.upcoming_symbol.specs.Upcoming.{name_of, row_of}
use Rattle.symbol_resolution.specs.Decision.{Decision}
use Rattle.symbol_resolution.specs.Decide.{refusal_of}
use Rattle.symbol_resolution.specs.Apply.{Table}
use Rattle.symbols.specs.Calls as Symbols
use Rattle.symbols.specs.Add as Add
use Rattle.symbols.specs.Add.{empty_at, file_of, decided_of, committed_of, add_row_of, judge_add_of, add_of}
use Rattle.add_list.specs.AddList.{ListLeft, list_left, items_of, noted_of, turn_of, adds_of, add_list_of}
use Rattle.symbol_laws.specs.History as History
use Rattle.symbol_laws.specs.History.{table}
use Rattle.symbol_laws.proofs.Calls.{call-refused}
use Rattle.symbol_laws.proofs.Put.{noted-refused}
use Rattle.merge_laws.specs.Calls.{Linked, linked}
use Rattle.link_laws.specs.Calls.{add, add_list, call_left, call_next, call_notes, call_number, run_calls, log_calls, adds_up_to, list_adds}
use Rattle.link_laws.proofs.Rules.{taken, left_out}
use Rattle.link_laws.proofs.ListCall.{turn-refusal, turn-table, turn-test, next-is}
use Rattle.link_laws.specs.OneByOne.{tried, answered, first_refused, in_cells, OneByOne}

-- ---- the words

-- ---- an add that has number 0 is accepted

commit-said : (t : Table) (r : Row) (file : Option Interned) (d : Decision) → number_in (committed_of t r file d).said ≡ 0 → (committed_of t r file d).said ≡ accepted (value_in (committed_of t r file d).said)
unfolding committed_of
commit-said t r file d =
    pick P (eqb (refusal_of d) 21) _ _ (λ a z. absurd (differ z))
    (λ a. pick P (eqb (refusal_of d) 0) _ _ (λ b z. refl) (λ b z. absurd (eqb-false _ _ b z)))
  where
    differ : ◌≡◌ {A = ℕ} 21 0 → ⊥
    differ z = omega arith

    P : Symbols.Left → Type 0
    P o = number_in o.said ≡ 0 → o.said ≡ accepted (value_in o.said)

add-said : (t : Table) (conversion : List ℕ) (u : UpcomingSymbol) → number_in (add_of t conversion u).said ≡ 0 → (add_of t conversion u).said ≡ accepted (value_in (add_of t conversion u).said)
unfolding add_of add_row_of
add-said t conversion u =
    let r : Row = row_of t.link.gabi conversion u (empty_at t.names (name_of u)) in
    pick (λ (o : Symbols.Left). number_in o.said ≡ 0 → o.said ≡ accepted (value_in o.said)) (eqb (judge_add_of t.link (Add.lent t) u).number 0) _ _
    (λ a. commit-said t r (file_of u) (decided_of t r (file_of u))) (λ a z. absurd (eqb-false _ _ a z))

noted-position : (a : Said) (t : Table) (ids : List ℕ) (k : ℕ) → (noted_of a t ids k).position ≡ k
noted-position (accepted id) t ids k = refl
noted-position (refusing r) t ids k = refl

noted-refused-ids : (a : Said) (t : Table) (ids : List ℕ) (k : ℕ) → eqb (number_in a) 0 ≡ false → (noted_of a t ids k).ids ≡ ids
noted-refused-ids (accepted id) t ids k z = absurd (eqb-false 0 0 z refl)
noted-refused-ids (refusing r) t ids k z = refl

module _ (conversion : List ℕ) (u : UpcomingSymbol) (s : Linked) (w : ListLeft) (k : ℕ) (e : w.table ≡ table s.table) where
  turn-position : (turn_of conversion u w k).position ≡ k
  unfolding turn_of
  turn-position = noted-position (add_of w.table conversion u).said (add_of w.table conversion u).table w.ids k

  turn-ids : eqb (call_number (add conversion u) s) 0 ≡ true → (turn_of conversion u w k).ids ≡ set w.ids k (value_in (call_left (add conversion u) s).said)
  unfolding turn_of
  turn-ids a =
      ap (λ (t : Table). (noted_of (add_of t conversion u).said (add_of t conversion u).table w.ids k).ids) e
      ∙ ap (λ (x : Said). (noted_of x (add_of (table s.table) conversion u).table w.ids k).ids) (add-said (table s.table) conversion u (eqb-true _ _ a))

  turn-left : eqb (call_number (add conversion u) s) 0 ≡ false → (turn_of conversion u w k).ids ≡ w.ids
  unfolding turn_of
  turn-left a =
      ap (λ (t : Table). (noted_of (add_of t conversion u).said (add_of t conversion u).table w.ids k).ids) e
      ∙ noted-refused-ids (add_of (table s.table) conversion u).said (add_of (table s.table) conversion u).table w.ids k a

-- ---- the adds

refused-next : (conversion : List ℕ) (u : UpcomingSymbol) (s : Linked) → eqb (call_number (add conversion u) s) 0 ≡ false → call_next (add conversion u) s ≡ s
refused-next conversion u s a =
    ap (λ (t : History.State). linked t s.inputs s.lists) (call-refused (History.add conversion u) s.table (eqb-false _ _ a))

run-tried : (conversion : List ℕ) (us : List UpcomingSymbol) (s : Linked)
    → linked (History.run_calls (adds_up_to conversion us s.table) s.table) s.inputs s.lists ≡ run_calls (tried conversion us s) s
run-tried conversion [] s = refl
run-tried conversion (u ∷ us) s =
    by-test (eqb (call_number (add conversion u) s) 0) (λ a. rw a (run-tried conversion us (call_next (add conversion u) s)))
    (λ a. rw a (sym (refused-next conversion u s a)))

log-tried : (conversion : List ℕ) (us : List UpcomingSymbol) (s : Linked) → History.log_calls (adds_up_to conversion us s.table) s.table ≡ log_calls (tried conversion us s) s
log-tried conversion [] s = refl
log-tried conversion (u ∷ us) s =
    by-test (eqb (call_number (add conversion u) s) 0)
    (λ a. rw a (ap (◌++◌ (call_notes (add conversion u) s)) (log-tried conversion us (call_next (add conversion u) s))))
    (λ a. rw a (sym (append-nil (call_notes (add conversion u) s) ∙ noted-refused (History.upcoming s.table conversion u) History.direct (call_left (add conversion u) s).said (eqb-false _ _ a))))

module _ (conversion : List ℕ) where
  first-refused : (us : List UpcomingSymbol) (s : Linked) (w : ListLeft) (k : ℕ) → w.table ≡ table s.table → (adds_of conversion us w k).refusal ≡ first_refused conversion us s
  unfolding adds_of
  first-refused [] s w k e = refl
  first-refused (u ∷ us) s w k e =
      let f = turn-test conversion u s.table w k e in
      by-test (eqb (call_number (add conversion u) s) 0)
      (λ a. rw (f ∙ a, a) (first-refused us (call_next (add conversion u) s) (turn_of conversion u w k) (k + 1) (turn-table conversion u s.table w k e)))
      (λ a. rw (f ∙ a, a) (turn-refusal conversion u s.table w k e))

  add-position : (us : List UpcomingSymbol) (s : Linked) (w : ListLeft) (k : ℕ) → w.table ≡ table s.table → (adds_of conversion us w k).position ≡ k + length (answered conversion us s)
  unfolding adds_of
  add-position [] s w k e = omega arith
  add-position (u ∷ us) s w k e =
      let f = turn-test conversion u s.table w k e in
      by-test (eqb (call_number (add conversion u) s) 0)
      (λ a.
      let i = add-position us (call_next (add conversion u) s) (turn_of conversion u w k) (k + 1) (turn-table conversion u s.table w k e) in
      rw (f ∙ a, a) (i ∙ omega arith))
      (λ a. rw (f ∙ a, a) (turn-position conversion u s w k e ∙ omega arith))

  add-cells : (us : List UpcomingSymbol) (s : Linked) (w : ListLeft) (k : ℕ) → w.table ≡ table s.table → (adds_of conversion us w k).ids ≡ in_cells w.ids k (answered conversion us s)
  unfolding adds_of
  add-cells [] s w k e = refl
  add-cells (u ∷ us) s w k e =
      let f = turn-test conversion u s.table w k e in
      by-test (eqb (call_number (add conversion u) s) 0)
      (λ a.
      rw (f ∙ a, a)
      (add-cells us (call_next (add conversion u) s) (turn_of conversion u w k) (k + 1) (turn-table conversion u s.table w k e)
      ∙ ap (λ (l : List ℕ). in_cells l (k + 1) (answered conversion us (call_next (add conversion u) s))) (turn-ids conversion u s w k e a)))
      (λ a. rw (f ∙ a, a) (turn-left conversion u s w k e a))

-- ---- the call

module _ (conversion adds ids : List ℕ) (s : Linked) where
  -- "A broken link gives 22 to any list", "changing nothing"
  pub list-broken : s.table.link.broken ≡ true → call_left (add_list conversion adds ids) s ≡ list_left (table s.table) ids (refused 22 0) 0
  unfolding add_list_of
  list-broken b = taken _ _ b

  -- "then fewer cells than adds give 2"
  pub list-short : s.table.link.broken ≡ false → length ids < length (items_of adds) → call_left (add_list conversion adds ids) s ≡ list_left (table s.table) ids (refused 2 0) 0
  unfolding add_list_of
  list-short b h = left_out _ _ b ∙ taken _ _ (lt-ltb _ _ h)

  module _ (b : s.table.link.broken ≡ false) (h : length (items_of adds) ≤ length ids) where
    abbrev from_first : ListLeft
    from_first = list_left (table s.table) ids none 0

    is-adds : call_left (add_list conversion adds ids) s ≡ adds_of conversion (items_of adds) from_first 0
    unfolding add_list_of
    is-adds = left_out _ _ b ∙ left_out _ _ (le-ltb _ _ h)

    adds-are : list_adds conversion adds ids s ≡ adds_up_to conversion (items_of adds) s.table
    adds-are = left_out _ _ b ∙ left_out _ _ (le-ltb _ _ h)

    pub one_by_one : OneByOne conversion adds ids s
    one_by_one =
        record {
          next = next-is conversion adds ids s
              ∙ ap (λ (ks : List History.Call). linked (History.run_calls ks s.table) s.inputs s.lists) adds-are
              ∙ run-tried conversion (items_of adds) s;
          log = ap (λ (ks : List History.Call). History.log_calls ks s.table) adds-are ∙ log-tried conversion (items_of adds) s;
          refusal = ap (λ (o : ListLeft). o.refusal) is-adds ∙ first-refused conversion (items_of adds) s from_first 0 refl;
          position = ap (λ (o : ListLeft). o.position) is-adds ∙ add-position conversion (items_of adds) s from_first 0 refl ∙ omega arith;
          cells = ap (λ (o : ListLeft). o.ids) is-adds ∙ add-cells conversion (items_of adds) s from_first 0 refl;
        }
