use Rattle.std.proofs.Common.{◌≡◌, take}
use Rattle.cells.specs.Rows.{put_row}
use Rattle.cells.proofs.writes.store_whole.Given as goal

abbrev pub invariant-loop-f : goal.invariant-loop-f
invariant-loop-f l = l.cells ≡ put_row l.initial.cells l.i (take l.f l.v-items)
