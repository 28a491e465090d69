use mathlib.Core.Path.{◌≡◌}
use Rattle.std.specs.Prelude.{Some, drop}
use Rattle.text.specs.Decimal.{decimal_from}
use Rattle.text.proofs.fields.decimal.Given as goal

abbrev pub invariant-loop-b : goal.invariant-loop-b
invariant-loop-b l = decimal_from (Some 0) l.x ≡ decimal_from (Some l.n) (drop l.b-index l.x)
