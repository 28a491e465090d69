-- Calls of the contracts' definitions in a row, each over its own table, and what of them the definition's rounds are.
-- Assumes nothing.
use Rattle.archive_walk.specs.declared.Offer.TheVariants.{Done, Member}
use Rattle.link.specs.declared.cause.Refusal.{Refusal}
use Rattle.archive_walk.specs.declared.Offer.{Offer}
use Rattle.std.specs.Prelude.{ℕ, zero, suc, true, cond, List, [], ◌∷◌, eqb, Result, Ok, Err}
use Rattle.archive_index.specs.Archives.{Archives}
use Rattle.archive_index.specs.Rows.{queue_at}
use Rattle.archive_walk.specs.declared.Walk.{Walk}
use Rattle.archive_walk.specs.Look.{Table, judge_table, removed_name, tied_name}
use Rattle.archive_walk.specs.Walk.{Step, start_of, next_of}
use Rattle.archive_laws.specs.Members.{any_below, View, Rounds, rounds_of}

-- the entries of the first n of the queue, last first
unfoldable pub queue_list : List ℕ → ℕ → List ℕ
queue_list l zero = []
queue_list l (suc n) = queue_at l n ∷ queue_list l n

-- what a call over c entries sees of a table, where entry k's name is `named k`: it ties (tied_name); a pass is refused by 1, or by 21 at a removed name
abbrev pub view_by : (ℕ → List ℕ) → ℕ → Table → View
view_by named c t = record {
  tied = λ k. tied_name t (named k);
  refused = cond (eqb (judge_table t).number 0) (any_below (λ k. removed_name t (named k)) c) true;
}

unfoldable pub views_by : (ℕ → List ℕ) → ℕ → List Table → List View
views_by named c [] = []
views_by named c (t ∷ ts) = view_by named c t ∷ views_by named c ts

-- the cells, the walk, and the entries by which members were offered, last first
pub record Run : Type 0 where
  pub cells : List ℕ
  pub walk : Walk
  pub offers : List ℕ

abbrev pub run_of : List ℕ → Walk → List ℕ → Run
run_of l w o = record { cells = l; walk = w; offers = o }

abbrev pub answered : Result Offer Refusal → List ℕ → List ℕ
answered (Ok (Member j o e p)) q = e ∷ q
answered (Ok (Done p)) q = q
answered (Err r) q = q

abbrev pub ran_of : Step → List ℕ → Run
ran_of x o = run_of x.cells x.moved.walk (answered x.moved.offer o)

unfoldable pub step_run : Archives → Table → Run → Run
step_run s t r = ran_of (next_of s r.cells r.walk t) r.offers

-- a call for each table
unfoldable pub history : Archives → List Table → Run → Run
history s [] r = r
history s (t ∷ ts) r = history s ts (step_run s t r)

-- a walk begins with the cells and the walk that a start leaves; no member was offered
abbrev pub begun_run : List ℕ → Walk → Run
begun_run l w = run_of l w []

unfoldable pub start_run : ℕ → Archives → List ℕ → Run
start_run key s l = begun_run (start_of key s l).cells (start_of key s l).started.walk

-- as rounds of the definition
abbrev pub seen : Run → Rounds
seen r = rounds_of (queue_list r.cells r.walk.queued) r.walk.offered r.walk.passes r.walk.done
