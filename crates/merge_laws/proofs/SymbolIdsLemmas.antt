-- Laws of the definitions of SymbolIds.antt.
-- Assumes nothing.
use Rattle.std.specs.Prelude.{ℕ, ◌≡◌, true, false, set}
use Rattle.link.specs.Said.{value_in}
use Rattle.symbol.specs.Codes.{successor}
use Rattle.merge_symbols.specs.Plan.{input_of}
use Rattle.merge_symbols.specs.Stage as Symbols
use Rattle.merge_symbols.specs.Stage.{Object, looked_of, symbol_of}
use Rattle.symbol_laws.specs.History.{issue, part_next, put_of}
use Rattle.merge_laws.specs.MergeSteps.{adds}
use Rattle.merge_laws.specs.SymbolStage.{table_in}
use Rattle.merge_laws.specs.SymbolIds.{is_dropped, name_of, plan_of}
use Rattle.merge_laws.proofs.SymbolIds.{named-id}

pub symbol-id : (o : Object) (s : Symbols.State) (i : ℕ) → is_dropped o s i ≡ false → (name_of o i).found ≡ true → adds (input_of o.entries o.work) (name_of o i).name i ≡ true
    → (symbol_of o s i).stage.number ≡ 0
    → (symbol_of o s i).ids ≡ set s.ids i (successor (value_in (put_of (part_next (issue (name_of o i).name) (table_in s)) (plan_of o s i).row).said))
unfolding symbol_of looked_of
symbol-id o s i k f b e = rw (k, f) (named-id (input_of o.entries o.work) s (name_of o i).name i b (rw (k, f) at e))
