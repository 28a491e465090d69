-- Document 01, "Archives": the walk over archives' members, call by call.
-- Assumes nothing.
use Rattle.archive_walk.specs.declared.Offer.TheVariants.{Done, Member}
use Rattle.archive_walk.specs.declared.Offer.{Offer}
use Rattle.link.specs.declared.cause.Refusal.{Refusal}
use Rattle.std.specs.Prelude.{ℕ, zero, suc, ◌+◌, Bool, true, false, cond, List, [], ◌∷◌, eqb, ltb, set, length, Result, Ok, Err}
use Rattle.link.specs.Bounds.{not_lent}
use Rattle.link.specs.Judge.{refused}
use Rattle.link.specs.Said.{SaidWith}
use Rattle.archive_index.specs.Archives.{Archives, last_end, member_of}
use Rattle.archive_index.specs.Rows.{member_at, pass_at, queue_at, stored_name, no_heads, pass_field, queue_field, rows_in, cell_of}
use Rattle.archive_index.specs.Open.{Opened, archive_bound, open_of}
use Rattle.archive_walk.specs.Names.{noted_of}
use Rattle.archive_walk.specs.Look.{Table, judge_table, removed_name, tied_name}
use Rattle.archive_walk.specs.declared.Walk.{Walk}

-- document 01's number and place of each answer
abbrev pub begun_number : Result ℕ Refusal → ℕ
begun_number (Ok n) = 0
begun_number (Err r) = r.number

abbrev pub begun_place : Result ℕ Refusal → ℕ
begun_place (Ok n) = 0
begun_place (Err r) = r.place

-- and values: how many entries the indexes have
abbrev pub begun_values : Result ℕ Refusal → List ℕ
begun_values (Ok n) = n ∷ []
begun_values (Err r) = []

abbrev pub begun_said : Result ℕ Refusal → SaidWith ℕ
begun_said a = record { number = begun_number a; place = begun_place a; values = begun_values a }

abbrev pub number_of : Result Offer Refusal → ℕ
number_of (Ok (Member j o e p)) = 0
number_of (Ok (Done p)) = 0
number_of (Err r) = r.number

abbrev pub place_of : Result Offer Refusal → ℕ
place_of (Ok (Member j o e p)) = 0
place_of (Ok (Done p)) = 0
place_of (Err r) = r.place

-- a member's archive and offset, the entry that queued it and the passes so far; "done" has the passes alone
abbrev pub values_of : Result Offer Refusal → List ℕ
values_of (Ok (Member j o e p)) = j ∷ o ∷ e ∷ p ∷ []
values_of (Ok (Done p)) = p ∷ []
values_of (Err r) = []

abbrev pub offer_said : Result Offer Refusal → SaidWith ℕ
offer_said a = record { number = number_of a; place = place_of a; values = values_of a }

-- ---- the start

-- a walk, and the answer of its start
pub record Started : Type 0 where
  pub walk : Walk
  pub begun : Result ℕ Refusal

pub record Start : Type 0 where
  pub cells : List ℕ
  pub started : Started

abbrev pub start_left : List ℕ → Started → Start
start_left l r = record { cells = l; started = r }

-- nothing is queued, and no pass is made; the key places the names in their chains, and no answer depends on it (archive_laws, AnyKey)
abbrev pub fresh_walk : ℕ → ℕ → ℕ → Walk
fresh_walk key c n = record { key = key; entries = c; length = n; passes = 0; queued = 0; offered = 0; done = false }

-- what comes with a refusal fits no index: a call for the next member gives 1, and doesn't say "done"
abbrev pub no_walk : Walk
no_walk = record { key = 0; entries = 0; length = not_lent; passes = 0; queued = 0; offered = 0; done = false }

unfoldable pub begun_of : ℕ → ℕ → Opened → Started
begun_of key n o =
    cond (eqb o.refusal.number 0) (record { walk = fresh_walk key o.entries n; begun = Ok o.entries })
    (record { walk = no_walk; begun = Err o.refusal })

-- what is left of an answer: the walk with its entries, or the walk that fits no index
abbrev pub started_of : Result Walk Refusal → Started
started_of (Ok w) = record { walk = w; begun = Ok w.entries }
started_of (Err r) = record { walk = no_walk; begun = Err r }

-- the entries' rows, with no name in a chain
unfoldable pub start_of : ℕ → Archives → List ℕ → Start
start_of key a l = start_left (no_heads (open_of a l).opened.entries (open_of a l).cells) (begun_of key (last_end a) (open_of a l).opened)

-- ---- a call for the next member

-- the walk as it is then, and the answer
pub record Moved : Type 0 where
  pub walk : Walk
  pub offer : Result Offer Refusal

pub record Step : Type 0 where
  pub cells : List ℕ
  pub moved : Moved

abbrev pub step_moved : List ℕ → Moved → Step
step_moved l m = record { cells = l; moved = m }

abbrev pub step_of : List ℕ → Walk → Result Offer Refusal → Step
step_of l w o = step_moved l (record { walk = w; offer = o })

-- a refusal leaves the walk and the cells as they were
abbrev pub refused_move : Walk → ℕ → ℕ → Moved
refused_move w number place = record { walk = w; offer = Err (refused number place) }

-- the front of the queue goes out; "Every walk's last pass, maybe its first, offers nothing": an empty queue ends the walk
abbrev pub handed_out : Walk → Walk
handed_out w =
    record { key = w.key; entries = w.entries; length = w.length; passes = w.passes; queued = w.queued; offered = w.offered + 1; done = false }

abbrev pub ended : Walk → Walk
ended w = record { key = w.key; entries = w.entries; length = w.length; passes = w.passes; queued = w.queued; offered = w.offered; done = true }

-- the member of entry e
abbrev pub member_offered : Archives → ℕ → ℕ → Offer
member_offered a e p = Member (member_of a e).archive (member_of a e).offset e p

unfoldable pub offer_of : Archives → List ℕ → Walk → Step
offer_of a l w =
    cond (ltb w.offered w.queued) (step_of l (handed_out w) (Ok (member_offered a (queue_at l w.offered) w.passes))) (step_of l (ended w) (Ok (Done w.passes)))

-- the cells, and how many members were queued since the start
pub record Queue : Type 0 where
  pub cells : List ℕ
  pub queued : ℕ

abbrev pub queue_of : List ℕ → ℕ → Queue
queue_of l n = record { cells = l; queued = n }

-- entry k goes to the end of the queue of n, in pass p, and its name is required of its member
unfoldable pub marked : ℕ → ℕ → List ℕ → ℕ → ℕ → ℕ → List ℕ → ℕ → List ℕ
marked key c s p k r l n = set (set (noted_of key c s l k) (cell_of r pass_field) p) (cell_of n queue_field) k

-- entry k, whose name is undefined, of the member that r represents: queued if no pass has queued it yet; in the pass that queues it the names of
-- its other entries are required too
unfoldable pub enqueue : ℕ → ℕ → List ℕ → ℕ → ℕ → ℕ → Queue → Queue
enqueue key c s p k r q =
    cond (eqb (pass_at q.cells r) 0)
    (queue_of (marked key c s p k r q.cells q.queued) (q.queued + 1))
    (cond (eqb (pass_at q.cells r) p) (queue_of (noted_of key c s q.cells k) q.queued) q)

-- entry k in pass p
unfoldable pub tie_of : ℕ → ℕ → List ℕ → Table → ℕ → ℕ → Queue → Queue
tie_of key c s t p k q = cond (tied_name t (stored_name s q.cells k)) (enqueue key c s p k (member_at q.cells k) q) q

-- the n entries from k on
unfoldable pub tie_all : ℕ → ℕ → List ℕ → Table → ℕ → ℕ → ℕ → Queue → Queue
tie_all key c s t p zero k q = q
tie_all key c s t p (suc n) k q = tie_all key c s t p n (k + 1) (tie_of key c s t p k q)

-- of a walk, in the pass that it makes: entry k, and all its entries
abbrev pub tied_at : Walk → Table → ℕ → List ℕ → List ℕ → Queue
tied_at w t k s l = tie_of w.key w.entries s t w.passes k (queue_of l w.queued)

abbrev pub tied_all : Walk → Table → List ℕ → List ℕ → Queue
tied_all w t s l = tie_all w.key w.entries s t w.passes w.entries 0 (queue_of l w.queued)

-- of the n entries from k on the first whose name's row was removed, else k + n
unfoldable pub removed_of : List ℕ → List ℕ → Table → ℕ → ℕ → ℕ
removed_of s l t zero k = k
removed_of s l t (suc n) k = cond (removed_name t (stored_name s l k)) k (removed_of s l t n (k + 1))

abbrev pub passed : Walk → ℕ → Walk
passed w n = record { key = w.key; entries = w.entries; length = w.length; passes = w.passes + 1; queued = n; offered = w.offered; done = false }

abbrev pub offered_from : Archives → Walk → Queue → Step
offered_from a w q = offer_of a q.cells (passed w q.queued)

-- a pass over all entries; then the front of what it queued
unfoldable pub make_of : Archives → List ℕ → Walk → Table → Step
make_of a l w t = offered_from a w (tie_all w.key w.entries a.bytes t (w.passes + 1) w.entries 0 (queue_of l w.queued))

-- of c entries the first whose name's row was removed is x
abbrev pub search_judged : ℕ → ℕ → Result Unit Refusal
search_judged x c = cond (ltb x c) (Err (refused 21 x)) (Ok tt)

-- "A pass that meets a name whose row was removed gives 21", at the entry's position, before anything is queued
unfoldable pub search_of : Archives → List ℕ → Walk → Table → ℕ → Step
search_of a l w t x = cond (ltb x w.entries) (step_moved l (refused_move w 21 x)) (make_of a l w t)

-- the table is judged where it is first looked at, so that a queued member goes out whatever table is lent
unfoldable pub pass_of : Archives → List ℕ → Walk → Table → Step
pass_of a l w t =
    cond (eqb (judge_table t).number 0) (search_of a l w t (removed_of a.bytes l t w.entries 0))
    (step_moved l (refused_move w (judge_table t).number (judge_table t).place))

-- more ends than a start takes; a last end past the slice, or below the start's; fewer rows than at the start; counts that no walk has
unfoldable pub walk_fits : Archives → List ℕ → Walk → Bool
walk_fits a l w =
    cond (ltb archive_bound (length a.ends)) false
    (cond (ltb (length a.bytes) (last_end a)) false
    (cond (ltb (last_end a) w.length) false
    (cond (ltb (rows_in l) w.entries) false
    (cond (ltb w.entries w.queued) false
    (cond (ltb w.queued w.offered) false (cond (ltb w.queued w.passes) false true))))))

-- "A pass is made only at a call for the next member that finds none queued"
unfoldable pub go_of : Archives → List ℕ → Walk → Table → Step
go_of a l w t = cond (ltb w.offered w.queued) (offer_of a l w) (pass_of a l w t)

-- "After "done" it stays done"
unfoldable pub next_of : Archives → List ℕ → Walk → Table → Step
next_of a l w t =
    cond w.done (step_of l w (Ok (Done w.passes)))
    (cond (walk_fits a l w) (go_of a l w t) (step_moved l (refused_move w 1 0)))
