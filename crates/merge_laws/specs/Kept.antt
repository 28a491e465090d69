-- The rows that steps add and that aren't local.
-- Assumes nothing.
use Rattle.std.specs.Prelude.{cond, List, [], ◌∷◌, ◌++◌, eqb}
use Rattle.symbol.specs.declared.Row.{Row}
use Rattle.symbol_laws.specs.History.{Part, issue, put}
use Rattle.merge_laws.specs.Steps.{Step, part, mark, others}

abbrev pub global_rows : Row → List Row
global_rows r = cond (eqb r.scope 0) [] (r ∷ [])

abbrev pub part_rows : Part → List Row
part_rows (issue x) = []
part_rows (put r from) = global_rows r

abbrev pub added_rows : List Step → List Row
added_rows [] = []
added_rows (part p ∷ ks) = part_rows p ++ added_rows ks
added_rows (mark n ∷ ks) = added_rows ks
added_rows (others x l ∷ ks) = added_rows ks
