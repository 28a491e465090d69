-- Rows by the origin of their adds: steps none of which adds a library's row that is hidden. A merge's are such, since its rows are an object's.
-- Assumes nothing.
use Rattle.std.specs.Prelude.{◌≡◌, false, List, [], ◌∷◌}
use Rattle.symbol.specs.declared.Row.{Row}
use Rattle.symbol_laws.specs.Hidden.{is_hidden}
use Rattle.symbol_laws.specs.History.{Source, direct, object, library, Entry, issue, put}
use Rattle.merge_laws.specs.Steps.{Step, part, mark, others}

abbrev pub ShownFrom : Source → Row → Type 0
ShownFrom direct r = Unit {0}
ShownFrom object r = Unit {0}
ShownFrom library r = is_hidden r ≡ false

abbrev pub StepShown : Step → Type 0
StepShown (part (issue x)) = Unit {0}
StepShown (part (put r from)) = ShownFrom from r
StepShown (mark n) = Unit {0}
StepShown (others x l) = Unit {0}

abbrev pub AllShown : List Step → Type 0
AllShown [] = Unit {0}
AllShown (k ∷ ks) = StepShown k × AllShown ks

-- ---- the log

abbrev pub LogShown : List Entry → Type 0
LogShown [] = Unit {0}
LogShown (x ∷ xs) = ShownFrom x.from x.row × LogShown xs

-- the adds of objects and direct ones
abbrev pub with_object : Source → Entry → List Entry → List Entry
with_object direct x l = x ∷ l
with_object object x l = x ∷ l
with_object library x l = l

abbrev pub from_objects : List Entry → List Entry
from_objects [] = []
from_objects (x ∷ xs) = with_object x.from x (from_objects xs)
