-- Which entries of an archive's index a walk passed by. A weak definition is a definition, so it pulls no member, also where a member has a strong one:
-- it shadows the member. An entry is told in two cases: a weak definition holds its name and its member was not offered; its name is undefined
-- although its member was offered. Of a name without a row, or whose row was removed, nothing is told.
-- Assumes nothing.
use Rattle.std.specs.Prelude.{ℕ, zero, suc, ◌+◌, Bool, true, false, cond, List, [], ◌∷◌, eqb, ltb, length, Result, Ok, Err}
use Rattle.std.proofs.lemmas.List.Edits.{sets}
use Rattle.cells.specs.Search.{any_from}
use Rattle.link.specs.declared.SymbolId.{SymbolId}
use Rattle.link.specs.declared.cause.Refusal.{Refusal}
use Rattle.link.specs.Judge.{refused}
use Rattle.symbol.specs.Row.{scope_at}
use Rattle.symbol_resolution.specs.declared.rows.Holder.{Holder}
use Rattle.symbol_resolution.specs.declared.rows.Holder.TheVariants.{Unissued, Nobody, Removed, Known}
use Rattle.symbol_resolution.specs.RowsUndefined.{undefined_row}
use Rattle.symbol_resolution.specs.Decide.{weak_of}
use Rattle.archive_index.specs.Rows.{member_at, queue_at, stored_name, rows_in}
use Rattle.archive_index.specs.Open.{entry_bound}
use Rattle.archive_walk.specs.declared.Walk.{Walk}
use Rattle.archive_walk.specs.Look.{Table, judge_table, name_holder}

-- ---- the members that were offered

-- one of the first n entries of the queue is of the member that r represents; a representative is an entry, so below the bound on entries
unfoldable pub offered_among : List ℕ → ℕ → ℕ → Bool
offered_among l n r = cond (ltb r entry_bound) (any_from (λ i. eqb (member_at l (queue_at l i)) r) 0 n) false

-- ---- the entries that are told

-- "A definition is any value but `Undefined`"; weak by the row's own flag
unfoldable pub weak_definition : List ℕ → SymbolId → Bool
weak_definition symbols id = cond (undefined_row symbols id) false (weak_of (scope_at symbols id.0))

-- a name's row, and whether its member was offered
unfoldable pub told_row : List ℕ → Bool → SymbolId → Bool
told_row symbols offered id = cond offered (undefined_row symbols id) (weak_definition symbols id)

abbrev pub told_holder : List ℕ → Bool → Holder → Bool
told_holder symbols offered Unissued = false
told_holder symbols offered Nobody = false
told_holder symbols offered Removed = false
told_holder symbols offered (Known id) = told_row symbols offered id

unfoldable pub told_name : Table → Bool → List ℕ → Bool
told_name t offered x = told_holder t.symbols offered (name_holder t x)

-- entry k, where `offered r` says of a member that it was offered
unfoldable pub told_at : List ℕ → List ℕ → Table → (ℕ → Bool) → ℕ → Bool
told_at s l t offered k = told_name t (offered (member_at l k)) (stored_name s l k)

-- of the n numbers from k on those of which p holds, in their order
unfoldable pub those : (ℕ → Bool) → ℕ → ℕ → List ℕ
those p k zero = []
those p k (suc n) = cond (p k) (k ∷ those p (k + 1) n) (those p (k + 1) n)

-- ---- the call

-- the lent cells, and the answer: how many entries are told
pub record Left : Type 0 where
  pub cells : List ℕ
  pub answer : Result ℕ Refusal

abbrev pub left : List ℕ → Result ℕ Refusal → Left
left c a = record { cells = c; answer = a }

abbrev pub list_left : List ℕ → ℕ → Left
list_left c n = left c (Ok n)

-- the positions xs in the first cells
abbrev pub listed : List ℕ → List ℕ → Left
listed c xs = list_left (sets c 0 xs) (length xs)

-- those that are told of n entries
abbrev pub told_in : List ℕ → List ℕ → ℕ → Table → (ℕ → Bool) → List ℕ → Left
told_in s l n t offered c = listed c (those (told_at s l t offered) 0 n)

-- all that the call tells
abbrev pub told_of : List ℕ → List ℕ → Walk → Table → List ℕ
told_of s l w t = those (told_at s l t (offered_among l w.offered)) 0 w.entries

-- an index or rows shorter than at the start, or counts that no walk has; not the passes, of which a walk that is done may have made one more than it
-- queued members
unfoldable pub fits_index : List ℕ → List ℕ → Walk → Bool
fits_index s l w =
    cond (ltb (length s) w.length) false
    (cond (ltb (rows_in l) w.entries) false (cond (ltb w.entries w.queued) false (cond (ltb w.queued w.offered) false true)))

-- the link's counts first (1); a walk that doesn't fit its index or rows 1, then fewer cells than entries 2, both at 0
unfoldable pub shadowed_of : List ℕ → List ℕ → Walk → Table → List ℕ → Left
shadowed_of s l w t c =
    cond (eqb (judge_table t).number 0)
    (cond (fits_index s l w)
    (cond (ltb (length c) w.entries) (left c (Err (refused 2 0))) (listed c (told_of s l w t)))
    (left c (Err (refused 1 0))))
    (left c (Err (judge_table t)))
