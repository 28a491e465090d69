-- The walk as document 01 tells it, over lists of entries, without cells: what the contracts' definitions are compared with. An entry's member is known by
-- a key, `keys k` for entry k: two entries are of one member if their keys are equal. What the key is, is left open; an archive's is the offset (Rounds.antt).
-- Assumes nothing.
use Rattle.std.specs.Prelude.{ℕ, zero, suc, ◌+◌, ◌≡◌, Bool, true, false, cond, not, List, [], ◌∷◌, eqb, ltb, length}

-- two entries of one member
abbrev pub Same : (ℕ → ℕ) → ℕ → ℕ → Type 0
Same keys j k = keys j ≡ keys k

-- one of the entries q is of entry k's member
unfoldable pub among : (ℕ → ℕ) → ℕ → List ℕ → Bool
among keys k [] = false
among keys k (j ∷ q) = cond (eqb (keys j) (keys k)) true (among keys k q)

-- no two of them are of one member
pub data Once (keys : ℕ → ℕ) : List ℕ → Type 0 where
  none : Once keys []
  more : {k : ℕ} {q : List ℕ} → among keys k q ≡ false → Once keys q → Once keys (k ∷ q)

-- how many numbers below n f holds of
unfoldable pub cnt : (ℕ → Bool) → ℕ → ℕ
cnt f zero = 0
cnt f (suc n) = cond (f n) (suc (cnt f n)) (cnt f n)

-- f holds of some number below n
unfoldable pub any_below : (ℕ → Bool) → ℕ → Bool
any_below f zero = false
any_below f (suc n) = cond (f n) true (any_below f n)

-- the number of members that c entries name: as many as are the first of their member
unfoldable pub is_first : (ℕ → ℕ) → ℕ → Bool
is_first keys k = not (any_below (λ j. eqb (keys j) (keys k)) k)

abbrev pub members : (ℕ → ℕ) → ℕ → ℕ
members keys c = cnt (is_first keys) c

-- what a call sees of the table lent to it: which entries' names are undefined, and whether a pass over it is refused
pub record View : Type 0 where
  pub tied : ℕ → Bool
  pub refused : Bool

-- "Members go in first-seen order": in index order each tied entry whose member isn't queued yet goes to the end. Queues stand last first
unfoldable pub pull_at : (ℕ → ℕ) → (ℕ → Bool) → List ℕ → ℕ → List ℕ
pull_at keys tie q k = cond (tie k) (cond (among keys k q) q (k ∷ q)) q

-- the n entries from k on
unfoldable pub pull : (ℕ → ℕ) → (ℕ → Bool) → ℕ → ℕ → List ℕ → List ℕ
pull keys tie zero k q = q
pull keys tie (suc n) k q = pull keys tie n (k + 1) (pull_at keys tie q k)

-- every member queued so far, how many of them were offered, the passes made
pub record Rounds : Type 0 where
  pub queue : List ℕ
  pub offered : ℕ
  pub passes : ℕ
  pub done : Bool

abbrev pub rounds_of : List ℕ → ℕ → ℕ → Bool → Rounds
rounds_of q o p d = record { queue = q; offered = o; passes = p; done = d }

-- the front of the queue is offered; an empty one ends the walk
unfoldable pub front_of : List ℕ → ℕ → ℕ → Rounds
front_of q o p = cond (ltb o (length q)) (rounds_of q (o + 1) p false) (rounds_of q o p true)

-- a pass over c entries, unless it is refused
unfoldable pub pass_round : (ℕ → ℕ) → ℕ → View → Rounds → Rounds
pass_round keys c v a = cond v.refused a (front_of (pull keys v.tied c 0 a.queue) a.offered (a.passes + 1))

-- a call
unfoldable pub round : (ℕ → ℕ) → ℕ → View → Rounds → Rounds
round keys c v a =
    cond a.done a (cond (ltb a.offered (length a.queue)) (front_of a.queue a.offered a.passes) (pass_round keys c v a))

-- a call for each view
unfoldable pub rounds : (ℕ → ℕ) → ℕ → List View → Rounds → Rounds
rounds keys c [] a = a
rounds keys c (v ∷ vs) a = rounds keys c vs (round keys c v a)

abbrev pub fresh : Rounds
fresh = rounds_of [] 0 0 false
