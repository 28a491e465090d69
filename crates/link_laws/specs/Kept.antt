-- Which group signatures a history met, in order; and what holds of a link from which nothing was removed.
-- Assumes nothing.
use Rattle.std.specs.Prelude.{ℕ, ◌≤◌, Bool, true, false, List, [], ◌∷◌, ◌++◌, length}
use Rattle.link.specs.Bounds.{not_lent}
use Rattle.symbol_laws.specs.History.{Entry}
use Rattle.symbol_laws.specs.Held.{Inv}
use Rattle.merge_laws.specs.Marked.{marks_of, Marked}
use Rattle.merge_laws.specs.Lookups.{CountedIn}
use Rattle.merge_laws.specs.Calls.{Linked}
use Rattle.link_laws.specs.Calls.{Call, intern, add, remove, add_group, merge, merge_file, load, collect, plain_collect, call_next, reads, add_list}
use Rattle.link_laws.specs.CallSteps.{call_steps}

-- the names that a call's steps mark: the signatures of its groups, in order, met before or not
abbrev pub call_marks : Call → Linked → List (List ℕ)
call_marks k s = marks_of (call_steps k s) s.table

-- and those of a history, in order
abbrev pub signatures : List Call → Linked → List (List ℕ)
signatures [] s = []
signatures (k ∷ ks) s = call_marks k s ++ signatures ks (call_next k s)

-- whether a call may meet a group
abbrev pub meets_groups : Call → Bool
meets_groups (intern x) = false
meets_groups (reads k) = false
meets_groups (add conversion u) = false
meets_groups (add_list conversion adds ids) = false
meets_groups (remove id) = false
meets_groups (add_group o work n) = true
meets_groups (merge o work ids) = true
meets_groups (merge_file file cells work ids) = true
meets_groups (load o marks) = false
meets_groups (collect marks entry work) = false
meets_groups (plain_collect marks entry work) = false

-- a link from which nothing was removed
pub record Reached (s : Linked) (past : List Entry) (met : List (List ℕ)) : Type 0 where
  pub held : Inv s.table past
  pub marked : Marked s.table met
  pub counted : CountedIn s.table
  pub lent : length s.lists ≤ not_lent
  pub inside : s.table.link.lists ≤ length s.lists
