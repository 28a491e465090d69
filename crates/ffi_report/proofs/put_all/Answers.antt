use Rattle.std.proofs.Common.{arith, rules}
use Rattle.ffi_report.specs.Proof.Ways.{put-start, put-on, put-end}
use Rattle.ffi_report.proofs.put_all.Goals as goal

pub loop-i-init : goal.loop-i-init
loop-i-init c = put-start _ _ _

pub loop-i-preserved : goal.loop-i-preserved
loop-i-preserved c = rw c.put.ensures (put-on _ _ _ _ _ (search rules) c.loop-i.invariant)

pub returns : goal.returns
returns c = put-end _ _ _ _ _ (search rules) c.loop-i.invariant
