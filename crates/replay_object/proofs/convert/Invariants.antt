use Rattle.std.proofs.Common.{◌≡◌, ◌-◌, length}
use Rattle.replay_object.specs.Conversion.{convert_from, convert_of}
use Rattle.replay_object.proofs.convert.Given as goal

abbrev pub invariant-loop-i : goal.invariant-loop-i
invariant-loop-i l = (convert_of l.initial.cells l.line ≡ convert_from (64 - l.i) l.cells l.line l.i) × (length l.cells ≡ length l.initial.cells)
