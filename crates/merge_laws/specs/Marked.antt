-- The marks in the names' rows are those of the signatures met, over every history.
-- Assumes nothing.
use Rattle.std.specs.Prelude.{ℕ, ◌+◌, ◌*◌, ◌<◌, ◌≡◌, Bool, true, cond, eqb}
use mathlib.Core.List.{List, [], ◌∷◌, ◌++◌}
use Rattle.std.proofs.Math.ListN.{get_or, set}
use Rattle.cells.specs.Rows.{row_width}
use Rattle.gabi.specs.StringTable.{among}
use Rattle.interner.specs.Names.{Store}
use Rattle.interner_laws.specs.Good.{Good, name, find}
use Rattle.symbol_laws.specs.History.{State, store}
use Rattle.section_groups.specs.Group.{signature_cell}
use Rattle.merge_laws.specs.Steps.{Step, part, mark, others, step_next}

-- the signature that a step marks
abbrev pub step_marks : Step → State → List (List ℕ)
step_marks (part p) s = []
step_marks (mark n) s = name (store s) n ∷ []
step_marks (others x l) s = []

abbrev pub marks_of : List Step → State → List (List ℕ)
marks_of [] s = []
marks_of (k ∷ ks) s = step_marks k s ++ marks_of ks (step_next k s)

-- after groups of these signatures
pub record Marked (s : State) (met : List (List ℕ)) : Type 0 where
  pub good : Good (store s)
  pub marks : (n : ℕ) → n < s.link.names → eqb (get_or s.names (signature_cell n) 0) 1 ≡ among (name (store s) n) met
  pub known : (x : List ℕ) → among x met ≡ true → find (store s) x < s.link.names

abbrev pub cell_set : State → ℕ → ℕ → ℕ → State
cell_set s n f v = record { bytes = s.bytes; names = set s.names (n * row_width + f) v; symbols = s.symbols; sections = s.sections; link = s.link }

-- ---- a new table

-- its one name has no mark
pub record Unmarked (s : Store) : Type 0 where
  pub one : s.link.names ≡ 1
  pub none : get_or s.names (signature_cell 0) 0 ≡ 0

-- a section's signature, where it is a loaded group
abbrev pub own_signature : Bool → List ℕ → List (List ℕ)
own_signature loaded x = cond loaded (x ∷ []) []
