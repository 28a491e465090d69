use Prim.Native.Nat.{◌≤◌, max}
use mathlib.Core.Path.{◌≡◌}
use Rattle.text.specs.Line.{end_in}
use Rattle.text.proofs.lines.line_end.Given as goal

abbrev pub invariant-loop-i : goal.invariant-loop-i
invariant-loop-i l = record { same : end_in l.buf l.from l.to ≡ end_in l.buf l.i l.to; most : l.i ≤ max l.from l.to }
