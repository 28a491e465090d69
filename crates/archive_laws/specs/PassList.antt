-- What a pass offers, as lists of members, each by its key: the words of demand 3b as one equation.
-- Assumes nothing.
use Prim.Native.Nat.{ℕ, zero, suc, ◌+◌}
use Rattle.std.specs.Prelude.{◌≡◌, Bool, ◌⊎◌, eqb}
use Rattle.std.proofs.Math.Bool.{true, false, cond}
use mathlib.Core.List.{List, [], ◌∷◌, ◌++◌}
use Rattle.archive_index.specs.Archives.{Archives, entries_in, name_in, key_in}
use Rattle.archive_walk.specs.Look.{Table}
use Rattle.archive_walk.specs.Walk.{begun_number, start_of}
use Rattle.archive_laws.specs.Runs.{Run, step_run}
use Rattle.archive_laws.specs.ByKey.{tied_in}

abbrev pub is_in : ℕ → List ℕ → Bool
is_in x [] = false
is_in x (y ∷ ys) = cond (eqb y x) true (is_in x ys)

-- those of xs that aren't in q
abbrev pub without : List ℕ → List ℕ → List ℕ
without q [] = []
without q (x ∷ xs) = cond (is_in x q) (without q xs) (x ∷ without q xs)

-- each once, where it is first seen
abbrev pub first_seen : List ℕ → List ℕ
first_seen [] = []
first_seen (x ∷ xs) = x ∷ without (x ∷ []) (first_seen xs)

module _ (keys : ℕ → ℕ) where
  -- the members of the n entries from k on that f holds of, entry by entry
  abbrev pub keys_from : (ℕ → Bool) → ℕ → ℕ → List ℕ
  keys_from f zero k = []
  keys_from f (suc n) k = cond (f k) (keys k ∷ keys_from f n (k + 1)) (keys_from f n (k + 1))

  -- of entries that stand last first, the members, first first
  abbrev pub keys_of : List ℕ → List ℕ
  keys_of [] = []
  keys_of (k ∷ q) = keys_of q ++ (keys k ∷ [])

-- the archives' members, each by archive and offset as one number: those of the entries from k on that f holds of
abbrev pub members_from : Archives → (ℕ → Bool) → ℕ → ℕ → List ℕ
members_from a = keys_from (key_in a)

-- those of the entries whose names tie in t (tied_name), in the order of the indexes
abbrev pub tied_members : Archives → Table → List ℕ
tied_members a t = members_from a (tied_in (name_in a) t) (entries_in a) 0

-- those offered so far, in order
abbrev pub offered : Archives → Run → List ℕ
offered a r = keys_of (key_in a) r.offers

-- its members of one pass are all offered: it is done, or the next call over some table makes another pass
abbrev pub IsOver : Archives → Run → Type 0
IsOver s r = (r.walk.done ≡ true) ⊎ ((t : Table) × ((step_run s t r).walk.passes ≡ r.walk.passes + 1))

module _ (key : ℕ) (s : Archives) (cells : List ℕ) (begun : begun_number (start_of key s cells).started.begun ≡ 0) where
  abbrev pub Over : Run → Type 0
  Over = IsOver s
