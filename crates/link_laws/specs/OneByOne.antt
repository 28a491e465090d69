-- A list of adds as its adds one by one, up to the first that is refused: the calls, what they answer, and what the list is to be equal to (2026-05).
-- Assumes nothing.
use Rattle.std.specs.Prelude.{ℕ, ◌+◌, ◌≡◌, cond, eqb, set, length}
use mathlib.Core.List.{List, [], ◌∷◌}
use Rattle.link.specs.declared.cause.Refusal.{Refusal}
use Rattle.link.specs.Judge.{none}
use Rattle.link.specs.Said.{value_in}
use Rattle.upcoming_symbol.specs.declared.UpcomingSymbol.{UpcomingSymbol}
use Rattle.add_list.specs.AddList.{items_of}
use Rattle.merge_laws.specs.Calls.{Linked}
use Rattle.link_laws.specs.Calls.{Call, add, add_list, call_left, call_next, call_notes, call_number, call_refusal, run_calls, log_calls}

-- the adds in order, up to the first that is refused, and with it
abbrev pub tried : List ℕ → List UpcomingSymbol → Linked → List Call
tried conversion [] s = []
tried conversion (u ∷ us) s =
    add conversion u ∷ cond (eqb (call_number (add conversion u) s) 0) (tried conversion us (call_next (add conversion u) s)) []

-- the ids that the accepted ones answer
abbrev pub answered : List ℕ → List UpcomingSymbol → Linked → List ℕ
answered conversion [] s = []
answered conversion (u ∷ us) s =
    cond (eqb (call_number (add conversion u) s) 0) (value_in (call_left (add conversion u) s).said ∷ answered conversion us (call_next (add conversion u) s)) []

-- number and place of the one that is refused
abbrev pub first_refused : List ℕ → List UpcomingSymbol → Linked → Refusal
first_refused conversion [] s = none
first_refused conversion (u ∷ us) s =
    cond (eqb (call_number (add conversion u) s) 0) (first_refused conversion us (call_next (add conversion u) s)) (call_refusal (add conversion u) s)

-- the ids in cells from k on, the other cells as they were
abbrev pub in_cells : List ℕ → ℕ → List ℕ → List ℕ
in_cells cells k [] = cells
in_cells cells k (x ∷ xs) = in_cells (set cells k x) (k + 1) xs

pub record OneByOne (conversion adds ids : List ℕ) (s : Linked) : Type 0 where
  pub next : call_next (add_list conversion adds ids) s ≡ run_calls (tried conversion (items_of adds) s) s
  pub log : call_notes (add_list conversion adds ids) s ≡ log_calls (tried conversion (items_of adds) s) s
  pub refusal : call_refusal (add_list conversion adds ids) s ≡ first_refused conversion (items_of adds) s
  pub position : (call_left (add_list conversion adds ids) s).position ≡ length (answered conversion (items_of adds) s)
  pub cells : (call_left (add_list conversion adds ids) s).ids ≡ in_cells ids 0 (answered conversion (items_of adds) s)
