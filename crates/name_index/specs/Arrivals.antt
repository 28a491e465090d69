-- The rows that a call appended, without the local ones: those that get a place each, if no two bear one name.
-- Assumes nothing.
use Rattle.std.specs.Prelude.{ℕ, zero, suc, ◌+◌, cond, List, [], ◌∷◌, ◌++◌, drop, length, eqb}
use Rattle.std.specs.List.{insert}
use Rattle.symbol.specs.Row.{scope_at}
use Rattle.symbol.specs.Layout.{local}
use Rattle.name_index.specs.Named.{Rows}
use Rattle.name_index.specs.Index.{Index, index_of, used}

-- of n rows from that id on
unfoldable pub global_rows : Rows → ℕ → ℕ → List ℕ
global_rows r id zero = []
global_rows r id (suc n) = cond (eqb (scope_at r.symbols id) local) (global_rows r (id + 1) n) (id ∷ global_rows r (id + 1) n)

-- ids inserted at places, from the last on: each place is one of the list as it was
unfoldable pub put_in : List ℕ → List ℕ → List ℕ → List ℕ
put_in old [] places = old
put_in old (id ∷ ids) [] = old
put_in old (id ∷ ids) (place ∷ places) = insert (put_in old ids places) place id

-- of an index: the ids among its places in use, and what was behind these no further than they reach
unfoldable pub put_together : Index → List ℕ → List ℕ → Index
put_together i ids places = index_of (put_in (used i) ids places ++ drop (i.count + length ids) i.places) (i.count + length ids)
