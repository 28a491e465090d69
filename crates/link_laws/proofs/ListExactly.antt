-- A list of adds is refused exactly where its rules give it.
-- Assumes nothing.
use Rattle.std.specs.Prelude.{ℕ, ◌+◌, ◌≡◌, refl, Bool, true, false, cond, List, [], ◌∷◌, ◌++◌, eqb, ltb, length}
use Rattle.std.proofs.Common.{ap, ◌∙◌}
use Rattle.link.specs.declared.cause.Refusal.{Refusal}
use Rattle.link.specs.Judge.{refused, none}
use Rattle.upcoming_symbol.specs.declared.UpcomingSymbol.{UpcomingSymbol}
use Rattle.symbols.specs.Add.{add_of}
use Rattle.add_list.specs.AddList.{ListLeft, list_left, items_of, turn_of, adds_of, add_list_of}
use Rattle.add_list.specs.Proof.Items.{items-length}
use Rattle.symbol_laws.specs.History as History
use Rattle.symbol_laws.specs.History.{State, table}
use Rattle.merge_laws.specs.Calls.{Linked, linked}
use Rattle.link_laws.specs.Calls.{add_list, call_refusal, refusal_by}
use Rattle.link_laws.specs.Rules.{first_refusal, numbered}
use Rattle.link_laws.proofs.Rules.{numbered-both, follows}
use Rattle.link_laws.specs.TableRules.{add_head, add_rules}
use Rattle.link_laws.proofs.AddExactly.{add-exactly}
use Rattle.link_laws.specs.ListRules.{list_head, list_rules}
use Rattle.link_laws.proofs.ListCall.{turn-refusal, turn-table}

pub list-numbered : (conversion : List ℕ) (us : List UpcomingSymbol) (t : State) → numbered (list_rules conversion us t) ≡ true
list-numbered conversion [] t = refl
list-numbered conversion (u ∷ us) t =
    numbered-both (add_head t ++ add_rules t conversion u) (list_rules conversion us (History.call_next (History.add conversion u) t)) refl
    (list-numbered conversion us (History.call_next (History.add conversion u) t))

adds-exactly : (conversion : List ℕ) (us : List UpcomingSymbol) (t : State) (w : ListLeft) (k : ℕ) → w.table ≡ table t
    → (adds_of conversion us w k).refusal ≡ first_refusal (list_rules conversion us t)
unfolding adds_of
adds-exactly conversion [] t w k e = refl
adds-exactly conversion (u ∷ us) t w k e =
    let q = turn-refusal conversion u t w k e in
    follows (add_head t ++ add_rules t conversion u) (list_rules conversion us (History.call_next (History.add conversion u) t)) (refusal_by (add_of (table t) conversion u).said) _ refl
    (add-exactly conversion u (linked t [] []))
    (λ a. rw (ap (λ (r : Refusal). eqb r.number 0) q ∙ a) q)
    (λ a.
    rw (ap (λ (r : Refusal). eqb r.number 0) q ∙ a)
    (adds-exactly conversion us (History.call_next (History.add conversion u) t) (turn_of conversion u w k) (k + 1) (turn-table conversion u t w k e)))

pub list-exactly : (conversion adds ids : List ℕ) (s : Linked)
    → call_refusal (add_list conversion adds ids) s ≡ first_refusal (list_head s.table adds ids ++ list_rules conversion (items_of adds) s.table)
unfolding add_list_of
list-exactly conversion adds ids s =
    go s.table.link.broken (ltb (length ids) (length (items_of adds)))
    ∙ ap (λ (c : Bool). cond s.table.link.broken (refused 22 0) (cond c (refused 2 0) (first_refusal (list_rules conversion (items_of adds) s.table)))) (ap (ltb (length ids)) (items-length adds))
  where
    one : ListLeft
    one = list_left (table s.table) ids (refused 22 0) 0

    two : ListLeft
    two = list_left (table s.table) ids (refused 2 0) 0

    three : ListLeft
    three = adds_of conversion (items_of adds) (list_left (table s.table) ids none 0) 0

    go : (b c : Bool) → (cond b one (cond c two three)).refusal ≡ cond b (refused 22 0) (cond c (refused 2 0) (first_refusal (list_rules conversion (items_of adds) s.table)))
    go true c = refl
    go false true = refl
    go false false = adds-exactly conversion (items_of adds) s.table (list_left (table s.table) ids none 0) 0 refl
