use Prim.Native.Nat.{◌-◌}
use mathlib.Core.Path.{◌≡◌}
use Rattle.std.specs.Prelude.{true}
use Rattle.text.specs.Fields.{run_end, start_of}
use Rattle.text.proofs.fields.start_of.Given as goal

abbrev pub invariant-loop : goal.invariant-loop
invariant-loop l = start_of l.line (run_end l.line 0 true) l.k ≡ start_of l.line l.at (l.k - l.counter)
