-- Of an object the signatures of its groups, and the rows of its symbols that are added and not local, in order.
-- Assumes nothing.
use Rattle.std.specs.Prelude.{ℕ, zero, suc, cond}
use mathlib.Core.List.{List, [], ◌++◌}
use Rattle.symbol.specs.declared.Row.{Row}
use Rattle.elf_object.specs.Rows.{is_loaded}
use Rattle.merge_symbols.specs.Plan.{input_of}
use Rattle.merge_stages.specs.Stages.{All, Object}
use Rattle.merge_laws.specs.MergeSteps.{adds}
use Rattle.merge_laws.specs.Kept.{global_rows}
use Rattle.merge_laws.specs.Marked.{own_signature}
use Rattle.merge_laws.specs.SymbolIds.{is_dropped, name_of, plan_of}
use Rattle.merge_laws.specs.Stops.{object, marked, symbol_reader, symbols_to}
use Rattle.merge_laws.specs.FirstKept.{signature}

module _ (o : Object) (a : All) where
  -- the signatures of the groups among the first n sections, excluded ones aside
  abbrev pub signatures_to : ℕ → List (List ℕ)
  signatures_to zero = []
  signatures_to (suc n) = signatures_to n ++ own_signature (is_loaded o.headers n 7) (signature o a n)

  -- the rows of the first n symbols that are added and not local, each as planned on what the ones before it left
  abbrev pub symbol_rows : ℕ → List Row
  symbol_rows zero = []
  symbol_rows (suc i) =
      symbol_rows i
      ++ cond (is_dropped (symbol_reader o a) (symbols_to o a i) i) []
      (cond (adds (input_of (object o a).entries (marked o a).work) (name_of (symbol_reader o a) i).name i) (global_rows (plan_of (symbol_reader o a) (symbols_to o a i) i).row) [])
