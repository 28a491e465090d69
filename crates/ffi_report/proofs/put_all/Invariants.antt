use Rattle.std.proofs.Common.{◌≡◌, ◌+◌, drop}
use Rattle.ffi_report.specs.Calls.{put_from}
use Rattle.ffi_report.proofs.put_all.Given as goal

abbrev pub invariant-loop-i : goal.invariant-loop-i
invariant-loop-i l = put_from l.cells (l.at + l.i) (drop l.i l.figures.0) ≡ put_from l.initial.cells l.at l.figures.0
