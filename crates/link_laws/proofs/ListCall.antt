-- A list of adds is its adds one by one, up to the first that is refused: the link, the log, ids, the refusal and its position (request 2026-05).
-- Assumes nothing.
use Rattle.std.specs.Prelude.{ℕ, ◌+◌, ◌≡◌, refl, Bool, true, false, cond, List, [], ◌∷◌, eqb, ltb, length, Option}
use Rattle.std.proofs.Common.{sym, ◌∙◌, subst}
use Rattle.std.proofs.Math.Path.{ap}
use Rattle.std.proofs.lemmas.Bool.{eqb-false}
use Rattle.cells.specs.Proof.Split.{by-test}
use Rattle.byte_slices.specs.Proof.Ways.{pick}
use Rattle.link.specs.declared.Link.{Link}
use Rattle.link.specs.declared.Interned.{Interned}
use Rattle.link.specs.declared.cause.Refusal.{Refusal}
use Rattle.link.specs.Judge.{refused, none}
use Rattle.link.specs.Said.{Said, accepted, refusing}
use Rattle.interner.specs.Names.{Store, keep_of}
use Rattle.upcoming_symbol.specs.declared.UpcomingSymbol.{UpcomingSymbol}
use Rattle.upcoming_symbol.specs.Upcoming.{name_of, row_of}
use Rattle.symbol.specs.declared.Row.{Row}
use Rattle.symbol_resolution.specs.Decision.{Decision}
use Rattle.symbol_resolution.specs.Decide.{refusal_of}
use Rattle.symbol_resolution.specs.Apply.{Table}
use Rattle.symbols.specs.Calls as Symbols
use Rattle.symbols.specs.Add.{empty_at, file_of, decided_of, committed_of, add_row_of, judge_add_of, add_of}
use Rattle.symbols.specs.Add as Add
use Rattle.add_list.specs.AddList.{ListLeft, list_left, items_of, noted_of, turn_of, adds_of, add_list_of}
use Rattle.symbol_laws.specs.History as History
use Rattle.symbol_laws.specs.History.{State, table, with_table}
use Rattle.symbol_laws.proofs.Calls.{call-refused}
use Rattle.merge_laws.proofs.Issue.{keeps}
use Rattle.merge_laws.proofs.SymbolStageLemmas.{applied-count}
use Rattle.merge_laws.specs.Calls.{Linked, linked}
use Rattle.link_laws.specs.Calls.{add_list, call_left, call_next, call_refusal, refusal_by, adds_up_to, list_adds, earlier}

-- ---- an add that is noted

noted-refusal : (a : Said) (t : Table) (ids : List ℕ) (k : ℕ) → (noted_of a t ids k).refusal ≡ refusal_by a
noted-refusal (accepted id) t ids k = refl
noted-refusal (refusing r) t ids k = refl

noted-table : (a : Said) (t : Table) (ids : List ℕ) (k : ℕ) → (noted_of a t ids k).table ≡ t
noted-table (accepted id) t ids k = refl
noted-table (refusing r) t ids k = refl

module _ (conversion : List ℕ) (u : UpcomingSymbol) (t : State) (w : ListLeft) (k : ℕ) (e : w.table ≡ table t) where
  abbrev added : State
  added = History.call_next (History.add conversion u) t

  pub turn-refusal : (turn_of conversion u w k).refusal ≡ refusal_by (add_of (table t) conversion u).said
  unfolding turn_of
  turn-refusal =
      noted-refusal (add_of w.table conversion u).said (add_of w.table conversion u).table w.ids k
      ∙ ap (λ (x : Table). refusal_by (add_of x conversion u).said) e

  pub turn-table : (turn_of conversion u w k).table ≡ table added
  unfolding turn_of
  turn-table =
      noted-table (add_of w.table conversion u).said (add_of w.table conversion u).table w.ids k
      ∙ ap (λ (x : Table). (add_of x conversion u).table) e

  -- whether it is accepted
  pub turn-test : eqb (turn_of conversion u w k).refusal.number 0 ≡ eqb (History.call_number (History.add conversion u) t) 0
  turn-test = ap (λ (r : Refusal). eqb r.number 0) turn-refusal

-- ---- the adds

-- a refused add leaves the table
left-as-it-was : (conversion : List ℕ) (u : UpcomingSymbol) (t : State) → eqb (History.call_number (History.add conversion u) t) 0 ≡ false
    → table (History.call_next (History.add conversion u) t) ≡ table t
left-as-it-was conversion u t a = ap table (call-refused (History.add conversion u) t (eqb-false _ _ a))

abbrev after : List ℕ → List UpcomingSymbol → State → State
after conversion us t = History.run_calls (adds_up_to conversion us t) t

adds-next : (conversion : List ℕ) (us : List UpcomingSymbol) (t : State) (w : ListLeft) (k : ℕ) → w.table ≡ table t
    → with_table t (adds_of conversion us w k).table ≡ after conversion us t
unfolding adds_of
adds-next conversion [] t w k e = ap (with_table t) e
adds-next conversion (u ∷ us) t w k e =
    let f = turn-test conversion u t w k e in
    by-test (eqb (History.call_number (History.add conversion u) t) 0)
    (λ a. rw (f ∙ a, a) (adds-next conversion us (History.call_next (History.add conversion u) t) (turn_of conversion u w k) (k + 1) (turn-table conversion u t w k e)))
    (λ a. rw (f ∙ a, a) (ap (with_table t) (turn-table conversion u t w k e ∙ left-as-it-was conversion u t a)))

-- what holds of the link before, and is kept by each add, holds after those that are accepted
up-to-keeps : (Q : State → Type 0) (conversion : List ℕ) → ((t : State) (u : UpcomingSymbol) → Q t → Q (History.call_next (History.add conversion u) t))
    → (us : List UpcomingSymbol) (t : State) → Q t → Q (after conversion us t)
up-to-keeps Q conversion step [] t q = q
up-to-keeps Q conversion step (u ∷ us) t q =
    by-test (eqb (History.call_number (History.add conversion u) t) 0)
    (λ a. rw a (up-to-keeps Q conversion step us (History.call_next (History.add conversion u) t) (step t u q))) (λ a. rw a q)

-- and what each add answers, the list answers
adds-give : (Q : State → Type 0) (P : Refusal → Type 0) (conversion : List ℕ) → ((t : State) (u : UpcomingSymbol) → Q t → Q (History.call_next (History.add conversion u) t)) → P none
    → ((t : State) (u : UpcomingSymbol) → Q t → P (refusal_by (add_of (table t) conversion u).said)) → (us : List UpcomingSymbol) (t : State) (w : ListLeft) (k : ℕ)
    → w.table ≡ table t → Q t → P (adds_of conversion us w k).refusal
unfolding adds_of
adds-give Q P conversion step z p [] t w k e q = z
adds-give Q P conversion step z p (u ∷ us) t w k e q =
    by-test (eqb (turn_of conversion u w k).refusal.number 0)
    (λ a. rw a (adds-give Q P conversion step z p us (History.call_next (History.add conversion u) t) (turn_of conversion u w k) (k + 1) (turn-table conversion u t w k e) (step t u q)))
    (λ a. rw a (subst P (sym (turn-refusal conversion u t w k e)) (p t u q)))

pub up-to-quiet : (conversion : List ℕ) (us : List UpcomingSymbol) (t : State) → History.RemovesNothing (adds_up_to conversion us t) t
up-to-quiet conversion [] t = tt
up-to-quiet conversion (u ∷ us) t =
    by-test (eqb (History.call_number (History.add conversion u) t) 0)
    (λ a. rw a ((λ (z : ⊥). z), up-to-quiet conversion us (History.call_next (History.add conversion u) t))) (λ a. rw a tt)

-- ---- the call

module _ (P : List History.Call → Type 0) (conversion adds ids : List ℕ) (s : Linked) where
  -- a list that makes no add, and one that is judged add by add
  pub listed-adds : P [] → P (adds_up_to conversion (items_of adds) s.table) → P (list_adds conversion adds ids s)
  listed-adds z p =
      pick P s.table.link.broken _ _ (λ b. z)
      (λ b. pick P (ltb (length ids) (length (items_of adds))) _ _ (λ c. z) (λ c. p))

-- 22, 2, or add by add
pub list_cases : (conversion adds ids : List ℕ) (s : Linked) (Q : ListLeft → List History.Call → Type 0)
    → (s.table.link.broken ≡ true → Q (list_left (table s.table) ids (refused 22 0) 0) []) → Q (list_left (table s.table) ids (refused 2 0) 0) []
    → Q (adds_of conversion (items_of adds) (list_left (table s.table) ids none 0) 0) (adds_up_to conversion (items_of adds) s.table)
    → Q (call_left (add_list conversion adds ids) s) (list_adds conversion adds ids s)
unfolding add_list_of
list_cases conversion adds ids s Q x y z = go s.table.link.broken (ltb (length ids) (length (items_of adds))) x
  where
    one : ListLeft
    one = list_left (table s.table) ids (refused 22 0) 0

    two : ListLeft
    two = list_left (table s.table) ids (refused 2 0) 0

    three : ListLeft
    three = adds_of conversion (items_of adds) (list_left (table s.table) ids none 0) 0

    made : List History.Call
    made = adds_up_to conversion (items_of adds) s.table

    go : (b c : Bool) → (b ≡ true → Q one []) → Q (cond b one (cond c two three)) (cond b [] (cond c [] made))
    go true c h = h refl
    go false true h = y
    go false false h = z

pub next-is : (conversion adds ids : List ℕ) (s : Linked) → call_next (add_list conversion adds ids) s ≡ earlier (add_list conversion adds ids) s
next-is conversion adds ids s =
    list_cases conversion adds ids s
    (λ o ks. linked (with_table s.table o.table) s.inputs s.lists ≡ linked (History.run_calls ks s.table) s.inputs s.lists) (λ b. refl) refl
    (ap (λ (t : State). linked t s.inputs s.lists) (adds-next conversion (items_of adds) s.table (list_left (table s.table) ids none 0) 0 refl))

pub list-keeps : (Q : State → Type 0) (conversion : List ℕ) → ((t : State) (u : UpcomingSymbol) → Q t → Q (History.call_next (History.add conversion u) t))
    → (adds ids : List ℕ) (s : Linked) → Q s.table → Q (History.run_calls (list_adds conversion adds ids s) s.table)
list-keeps Q conversion step adds ids s q =
    listed-adds (λ (ks : List History.Call). Q (History.run_calls ks s.table)) conversion adds ids s q (up-to-keeps Q conversion step (items_of adds) s.table q)

pub list-gives : (Q : State → Type 0) (P : Refusal → Type 0) (conversion : List ℕ) → ((t : State) (u : UpcomingSymbol) → Q t → Q (History.call_next (History.add conversion u) t))
    → (adds ids : List ℕ) (s : Linked) → (s.table.link.broken ≡ true → P (refused 22 0)) → P (refused 2 0) → P none
    → ((t : State) (u : UpcomingSymbol) → Q t → P (refusal_by (add_of (table t) conversion u).said)) → Q s.table → P (call_refusal (add_list conversion adds ids) s)
list-gives Q P conversion step adds ids s b c z p q =
    list_cases conversion adds ids s (λ o ks. P o.refusal) b c
    (adds-give Q P conversion step z p (items_of adds) s.table (list_left (table s.table) ids none 0) 0 refl q)

-- ---- "It never breaks the link"

pub keep-broken : (s : Store) (id : Interned) (x : List ℕ) → (keep_of s id x).link.broken ≡ s.link.broken
keep-broken s id x = keeps (λ (k : Store). k.link.broken ≡ s.link.broken) s id x refl (λ h r. refl)

commit-same : (t : Table) (r : Row) (file : Option Interned) (d : Decision) → (committed_of t r file d).table.link.broken ≡ t.link.broken
unfolding committed_of
commit-same t r file d =
    pick P (eqb (refusal_of d) 21) _ _ (λ a. refl)
    (λ a. pick P (eqb (refusal_of d) 0) _ _ (λ b. applied-count (λ (l : Link). l.broken) keep-broken (λ l n. refl) t r d) (λ b. refl))
  where
    P : Symbols.Left → Type 0
    P x = x.table.link.broken ≡ t.link.broken

pub add-broken-same : (t : Table) (conversion : List ℕ) (u : UpcomingSymbol) → (add_of t conversion u).table.link.broken ≡ t.link.broken
unfolding add_of add_row_of
add-broken-same t conversion u =
    let r : Row = row_of t.link.gabi conversion u (empty_at t.names (name_of u)) in
    pick (λ (x : Symbols.Left). x.table.link.broken ≡ t.link.broken) (eqb (judge_add_of t.link (Add.lent t) u).number 0) _ _
    (λ a. commit-same t r (file_of u) (decided_of t r (file_of u))) (λ a. refl)

pub list-broken-same : (conversion adds ids : List ℕ) (s : Linked) → (call_next (add_list conversion adds ids) s).table.link.broken ≡ s.table.link.broken
list-broken-same conversion adds ids s =
    ap (λ (t : Linked). t.table.link.broken) (next-is conversion adds ids s)
    ∙ list-keeps (λ (t : State). t.link.broken ≡ s.table.link.broken) conversion (λ t u q. add-broken-same (table t) conversion u ∙ q) adds ids s refl
