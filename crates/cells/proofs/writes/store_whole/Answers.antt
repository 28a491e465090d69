use Rattle.std.proofs.Common.{arith, refl}
use Rattle.cells.specs.Proof.Rows.{put_row-none, put_row-more}
use Rattle.cells.proofs.writes.store_whole.Goals as goal

pub loop-f-init : goal.loop-f-init
loop-f-init c = put_row-none _ _ c.args.row

pub loop-f-preserved : goal.loop-f-preserved
loop-f-preserved c = rw c.loop-f.invariant (put_row-more _ _ _ _ _ (omega arith) refl)
