-- The id that a symbol's add is answered, and which symbol is the null one.
-- Assumes nothing.
use Prim.Native.Nat.{ℕ}
use Rattle.std.specs.Prelude.{Bool, eqb, length}
use Rattle.link.specs.Said.{value_in}
use Rattle.strings.specs.Lookup.{Looked}
use Rattle.merge_symbols.specs.Plan.{Planned}
use Rattle.merge_symbols.specs.Plan.{is_first, filtered_at}
use Rattle.merge_symbols.specs.Stage as Symbols
use Rattle.symbol_laws.specs.History.{issue, part_next, put_of}
use Rattle.merge_laws.specs.SymbolStage as SymbolStage
use Rattle.merge_laws.specs.SymbolIds.{name_of, plan_of}

module _ (o : Symbols.Object) (s : Symbols.State) (i : ℕ) where
  abbrev pub x : Looked
  x = name_of o i

  abbrev pub p : Planned
  p = plan_of o s i

  abbrev pub first : Bool
  first = is_first i (eqb (length x.name) 0) (filtered_at o.entries o.work i)

  -- what its add is answered
  abbrev pub answer : ℕ
  answer = value_in (put_of (part_next (issue x.name) (SymbolStage.table_in s)) p.row).said
