-- The names of a load: where names are good they stay good, every id goes on standing for its name, and each recorded id stands for the name that
-- it was recorded for.
-- Assumes nothing.
use Rattle.std.specs.Prelude.{ℕ, zero, suc, ◌+◌, cond, List, [], ◌∷◌, ◌++◌, eqb, get_or}
use Rattle.gabi.specs.StringTable.{name_at}
use Rattle.interner.specs.Names.{Store, store_of}
use Rattle.interner_laws.specs.Good.{Good, Issued, Stays}
use Rattle.elf_object.specs.Rows.{field}
use Rattle.shared_objects.specs.Record.{Recorded}
use Rattle.shared_objects.specs.Define.{Added}
use Rattle.shared_objects.specs.SymbolsLoad.{State}

-- good names, and every id of s stands for its name
pub record Kept (s t : Store) : Type 0 where
  pub good : Good t
  pub stays : Stays s t

-- ---- ids and their names

pub data Each (s : Store) : List ℕ → List (List ℕ) → Type 0 where
  none : Each s [] []
  one : {i : ℕ} {x : List ℕ} {is : List ℕ} {xs : List (List ℕ)} → Issued s i x → Each s is xs → Each s (i ∷ is) (x ∷ xs)

-- ---- one recorded name

abbrev pub record_store : Recorded → Store
record_store s = store_of s.bytes s.names s.stage.link

-- ---- dependencies

unfoldable pub dependency_names : List ℕ → List ℕ → ℕ → ℕ → List (List ℕ)
dependency_names file needs zero j = []
dependency_names file needs (suc n) j = (name_at file (get_or needs j 0) ∷ []) ++ dependency_names file needs n (j + 1)

abbrev pub added_store : Added → Store
added_store s = store_of s.bytes s.names s.stage.link

abbrev pub state_store : State → Store
state_store s = store_of s.bytes s.names s.stage.link

-- the name of an undefined symbol of binding 1
unfoldable pub new_names : List ℕ → List ℕ → ℕ → List (List ℕ)
new_names entries file i =
    cond (eqb (field entries i 4) 0) (cond (eqb (field entries i 1) 1) (name_at file (field entries i 0) ∷ []) []) []

unfoldable pub undefined_names : List ℕ → List ℕ → ℕ → ℕ → List (List ℕ)
undefined_names entries file zero i = []
undefined_names entries file (suc n) i = new_names entries file i ++ undefined_names entries file n (i + 1)
