-- What the stages of a load append to the lists: the ids of the undefined names of binding 1, in order, then those of the dependencies.
-- Assumes nothing.
use Rattle.std.specs.Prelude.{ℕ, zero, suc, ◌+◌, cond, List, [], ◌∷◌, ◌++◌, eqb, get_or}
use Rattle.gabi.specs.StringTable.{name_at}
use Rattle.link.specs.declared.Link.{Link}
use Rattle.interner.specs.Names.{find_of}
use Rattle.elf_object.specs.Rows.{field}
use Rattle.shared_objects.specs.Record.{Recorded, dependency_of}
use Rattle.shared_objects.specs.SymbolsLoad.{State, symbol_of}

-- as long as every slice is
abbrev pub most : ℕ
most = 18446744073709551615

-- the id that the name has or gets
abbrev pub id_in : List ℕ → List ℕ → Link → List ℕ → ℕ
id_in bytes names l x = find_of bytes names l x

-- ---- dependencies

-- the ids of n of them from the j-th on
unfoldable pub dependency_ids : List ℕ → List ℕ → ℕ → ℕ → Recorded → List ℕ
dependency_ids file needs zero j s = []
dependency_ids file needs (suc n) j s =
    (id_in s.bytes s.names s.stage.link (name_at file (get_or needs j 0)) ∷ []) ++ dependency_ids file needs n (j + 1) (dependency_of file needs s j)

-- the id of an undefined name of binding 1
unfoldable pub new_ids : List ℕ → List ℕ → State → ℕ → List ℕ
new_ids entries file s i =
    cond (eqb (field entries i 4) 0)
    (cond (eqb (field entries i 1) 1) (id_in s.bytes s.names s.stage.link (name_at file (field entries i 0)) ∷ []) []) []

-- those of n symbols from the i-th on
unfoldable pub undefined_ids : List ℕ → List ℕ → ℕ → ℕ → State → List ℕ
undefined_ids entries file zero i s = []
undefined_ids entries file (suc n) i s = new_ids entries file s i ++ undefined_ids entries file n (i + 1) (symbol_of entries file s i)
