-- The rows of the symbols that a library defines, local ones aside, in order.
-- Assumes nothing.
use Rattle.std.specs.Prelude.{ℕ, zero, suc, cond, eqb}
use mathlib.Core.List.{List, [], ◌++◌}
use Rattle.strings.specs.Lookup.{look_up}
use Rattle.link.specs.Judge.{going_of}
use Rattle.symbol.specs.declared.Row.{Row}
use Rattle.elf_object.specs.Rows.{field}
use Rattle.shared_objects.specs.Define.{plan_of, view}
use Rattle.shared_objects.specs.SymbolsLoad.{State, staged}
use Rattle.shared_objects.specs.Stages.{Links}
use Rattle.merge_laws.specs.Kept.{global_rows}
use Rattle.load_laws.specs.LoadSteps.{adding}
use Rattle.load_laws.specs.Stops.{symbols_to}

-- what is planned for a symbol that the library defines
abbrev pub row_of : List ℕ → List ℕ → State → ℕ → Row
row_of entries file s i =
    (plan_of (view (adding (staged s (going_of s.stage.link)))) (look_up file (field entries i 0)).name (field entries i 1) (field entries i 3)).row

module _ (entries file needs : List ℕ) (s : Links) (x : List ℕ) where
  -- the rows of the first n symbols that are defined and not local, each as planned on what the ones before it left
  abbrev pub symbol_rows : ℕ → List Row
  symbol_rows zero = []
  symbol_rows (suc i) = symbol_rows i ++ cond (eqb (field entries i 4) 0) [] (global_rows (row_of entries file (symbols_to entries file needs s x i) i))
