-- What is promised of a whole walk, whatever its entries are the entries of: calls for the next member, each over any table. Entry k's name is `named k`, and
-- its member is known by the key `keys k`; the rows in the walk's cells say so (Fine, Steps.antt). A name "undefined" is one that ties (`tiedName`): undefined
-- where the table's link has the old profile, undefined and strong in the gABI's (Profiles.antt).
-- Assumes nothing.
use Rattle.std.specs.Prelude.{ℕ, ◌+◌, ◌<◌, ◌≤◌, ◌≡◌, Bool, true, false, cond, List, eqb}
use Rattle.byte_slices.specs.Bytes.{same}
use Rattle.archive_index.specs.Archives.{Archives}
use Rattle.archive_index.specs.Rows.{required_at, head_at}
use Rattle.archive_walk.specs.Look.{Table, tied_name}
use Rattle.archive_walk.specs.Names.{along, required_of}
use Rattle.archive_walk.specs.Walk.{walk_fits, next_of}
use Rattle.archive_laws.specs.Members.{any_below, among, Once, members, pull, rounds, fresh}
use Rattle.archive_laws.specs.Chains.{unasked, repeats}
use Rattle.archive_laws.specs.RoundLaws.{Newly}
use Rattle.archive_laws.specs.Answers.{Right}
use Rattle.archive_laws.specs.Runs.{queue_list, views_by, Run, step_run, seen}

-- entry k's name is undefined in t
abbrev pub tied_in : (ℕ → List ℕ) → Table → ℕ → Bool
tied_in named t k = tied_name t (named k)

-- entry j, of the member of entry e, bears the name x, and is marked as required
abbrev pub asks : (ℕ → ℕ) → (ℕ → List ℕ) → List ℕ → ℕ → List ℕ → ℕ → Bool
asks keys named l e x j = cond (eqb (required_at l j) 1) (cond (eqb (keys j) (keys e)) (same (named j) x) false) false

-- one of c entries ties the name x to the member of entry e
unfoldable pub in_index : (ℕ → ℕ) → (ℕ → List ℕ) → ℕ → ℕ → List ℕ → Bool
in_index keys named c e x = any_below (λ j. cond (eqb (keys j) (keys e)) (same (named j) x) false) c

-- every member queued so far, by its entry, last first
abbrev pub queue_in : Run → List ℕ
queue_in r = queue_list r.cells r.walk.queued

-- a call over table t made a pass: all that was queued has been offered; what it queues are, in index order, the entries that tie a member not offered
-- before to a name undefined at its start, one for each such member, its first
pub record Pass (s : Archives) (keys : ℕ → ℕ) (named : ℕ → List ℕ) (c : ℕ) (t : Table) (r r' : Run) : Type 0 where
  pub drained : r.offers ≡ queue_in r
  pub newly : Newly keys (tied_in named t) r.offers c (queue_in r')
  pub all : (k : ℕ) → k < c → tied_in named t k ≡ true → among keys k (queue_in r') ≡ true
  -- the names that admission will ask for: those of the tied entries of the members that this pass queues; earlier ones stay
  pub required : (k : ℕ) → k < c → required_at r'.cells k ≡ cond (tied_in named t k) (cond (among keys k r.offers) (required_at r.cells k) 1) (required_at r.cells k)
  -- so of a member that was not offered before just those names are required that the index ties to it and that are undefined at the pass
  pub names : (e : ℕ) → e < c → among keys e r.offers ≡ false → (x : List ℕ) → required_of s.bytes r'.cells r'.walk e x ≡ cond (tied_name t x) (in_index keys named c e x) false
  pub pulled : queue_in r' ≡ pull keys (tied_in named t) c 0 r.offers

pub record Walked (s : Archives) (keys : ℕ → ℕ) (named : ℕ → List ℕ) (c : ℕ) (ts : List Table) (r : Run) : Type 0 where
  -- the calls are the definition's: passes, queue and "done" are those of its rounds
  pub same-rounds : seen r ≡ rounds keys c (views_by named c ts) fresh
  -- no call is refused on account of the walk or its cells
  pub fits : r.walk.done ≡ false → walk_fits s r.cells r.walk ≡ true
  -- at most m + 1 passes, at most m before the walk is done
  pub bound : r.walk.passes ≤ members keys c + 1
  pub going : r.walk.done ≡ false → r.walk.passes ≤ members keys c
  -- each answer tells the walk's own count of passes, whether it is done, and the offset of the entry that it names; a refusal leaves all
  pub answers : (t : Table) → Right s r.cells r.walk (next_of s r.cells r.walk t)
  -- members are offered in the order of the queue, none twice
  pub in_order : r.offers ≡ queue_list r.cells r.walk.offered
  pub once : Once keys r.offers
  pub pass : (t : Table) → (step_run s t r).walk.passes ≡ r.walk.passes + 1 → Pass s keys named c t r (step_run s t r)
  -- "Every walk's last pass": a call that ends the walk makes a pass, so no walk is done before one
  pub ends : (t : Table) → r.walk.done ≡ false → (step_run s t r).walk.done ≡ true → (step_run s t r).walk.passes ≡ r.walk.passes + 1
  pub some-pass : r.walk.done ≡ true → 1 ≤ r.walk.passes
  -- the last pass: no name undefined in its table is tied to a member that was not offered
  pub last : (t : Table) → r.walk.done ≡ false → (step_run s t r).walk.done ≡ true → (k : ℕ) → k < c → tied_in named t k ≡ true → among keys k (step_run s t r).offers ≡ true
  -- admission asks for a name just if it is that of a marked entry of the member
  pub asked : (e : ℕ) → e < c → (x : List ℕ) → required_of s.bytes r.cells r.walk e x ≡ any_below (asks keys named r.cells e x) c
  -- for the time that admission takes: a chain has marked entries only, no two of one member and name
  pub chains-asked : (b : ℕ) → b < c → (n : ℕ) → along r.cells (unasked r.cells) (head_at r.cells b) n ≡ false
  pub chains-apart : (b : ℕ) → b < c → (n : ℕ) → repeats s.bytes r.cells (head_at r.cells b) n ≡ false
  -- the names required of a queued member stay, though they may be defined since
  pub names-stay : (t : Table) (e : ℕ) → e < c → among keys e (queue_in r) ≡ true → (x : List ℕ) → required_of s.bytes (step_run s t r).cells (step_run s t r).walk e x ≡ required_of s.bytes r.cells r.walk e x
  -- done stays done
  pub still : (t : Table) → r.walk.done ≡ true → step_run s t r ≡ r
  -- "a queued one is offered though its name is defined since": the table is not looked at
  pub blind : (t t' : Table) → r.walk.offered < r.walk.queued → next_of s r.cells r.walk t ≡ next_of s r.cells r.walk t'
