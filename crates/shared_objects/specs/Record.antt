-- A name among the lists: one that a library lacks, or a dependency's. "2: no free row, mark or name byte", which leaves "all at that element".
-- Assumes nothing.
use Rattle.std.specs.Prelude.{ℕ, zero, suc, ◌+◌, Bool, true, false, cond, List, eqb, ltb, get_or, set, length, Result}
use Rattle.strings.specs.Lookup.{look_up}
use Rattle.link.specs.declared.Link.{Link}
use Rattle.link.specs.Stage.{Stage}
use Rattle.link.specs.declared.Interned.{Interned}
use Rattle.link.specs.declared.cause.Refusal.{Refusal}
use Rattle.link.specs.Judge.{going_of, stopped_of, stage_as}
use Rattle.link.specs.Counts.{with_lists}
use Rattle.interner.specs.Names.{Store, store_of, find_of, fits_of, keep_of}
use Rattle.symbol.specs.Codes.{successor}
use Rattle.shared_objects.specs.declared.Loading.{Loading}

-- the lent cells that recording a name writes, and the stage
pub record Recorded : Type 0 where
  pub bytes : List ℕ
  pub names : List ℕ
  pub lists : List ℕ
  pub stage : Stage

abbrev pub recorded_of : List ℕ → List ℕ → List ℕ → Stage → Recorded
recorded_of b n l st = record { bytes = b; names = n; lists = l; stage = st }

-- what is lent before a call, and after it with its answer
abbrev pub recorded_before : Loading → Recorded
recorded_before s = recorded_of s.bytes.now s.names.now s.lists.now (going_of s.link)

abbrev pub recorded_after : Loading → Result Unit Refusal → Recorded
recorded_after s r = recorded_of s.bytes.now s.names.now s.lists.now (stage_as s.link r)

-- the names alone
abbrev pub store_in : Loading → Store
store_in s = store_of s.bytes.now s.names.now s.link

-- a known name, or room for it; and a free cell
unfoldable pub record_fits : Link → List ℕ → List ℕ → ℕ → Interned → ℕ → Bool
record_fits l bytes names lists id n = cond (fits_of (store_of bytes names l) id n) (cond (ltb l.lists lists) true false) false

abbrev pub recorded : Recorded → Store → Interned → Recorded
recorded s k id =
    recorded_of k.bytes k.names (set s.lists s.stage.link.lists id.0)
    (going_of (with_lists k.link (successor s.stage.link.lists)))

unfoldable pub keep_name : Recorded → List ℕ → Interned → Recorded
keep_name s x id = recorded s (keep_of (store_of s.bytes s.names s.stage.link) id x) id

unfoldable pub record_as : Recorded → List ℕ → ℕ → Interned → Recorded
record_as s x place id =
    cond (record_fits s.stage.link s.bytes s.names (length s.lists) id (length x))
    (keep_name s x id)
    (recorded_of s.bytes s.names s.lists (stopped_of s.stage.link 2 place))

unfoldable pub record_of : Recorded → List ℕ → ℕ → Recorded
record_of s x place = record_as s x place (record { 0 = find_of s.bytes s.names s.stage.link x })

-- ---- dependencies: "no free row" at the dependency's row

unfoldable pub dependency_of : List ℕ → List ℕ → Recorded → ℕ → Recorded
dependency_of image needs s j =
    record_of (recorded_of s.bytes s.names s.lists (going_of s.stage.link)) (look_up image (get_or needs j 0)).name j

-- n dependencies from the j-th on, up to the first refusal
unfoldable pub dependencies_from : List ℕ → List ℕ → ℕ → ℕ → Recorded → Recorded
dependencies_from image needs zero j s = s
dependencies_from image needs (suc n) j s =
    cond (eqb (dependency_of image needs s j).stage.number 0) (dependencies_from image needs n (j + 1) (dependency_of image needs s j))
    (dependency_of image needs s j)

unfoldable pub dependencies_of : List ℕ → List ℕ → Recorded → Recorded
dependencies_of image needs s = dependencies_from image needs (length needs) 0 s
