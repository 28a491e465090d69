use Prim.Native.Nat.{◌≤◌, max}
use mathlib.Core.Path.{◌≡◌}
use lib.ListN.{length}
use Rattle.text.specs.Fields.{run_end}
use Rattle.text.proofs.fields.run_end.Given as goal

abbrev pub invariant-loop-i : goal.invariant-loop-i
invariant-loop-i l = record { same : run_end l.line l.at l.separators ≡ run_end l.line l.i l.separators; most : l.i ≤ max l.at (length l.line) }
