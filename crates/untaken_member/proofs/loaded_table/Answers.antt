use Rattle.std.proofs.Common.{refl}
use Rattle.untaken_member.specs.Untaken.{table_below}
use Rattle.untaken_member.specs.Proof.Ways.{table-met, table-stays}
use Rattle.untaken_member.proofs.loaded_table.Goals.{then-is_loaded, else-is_loaded}
use Rattle.untaken_member.proofs.loaded_table.Goals as goal

pub loop-n-init : goal.loop-n-init
unfolding table_below
loop-n-init c = refl

pub loop-n-preserved : goal.loop-n-preserved
loop-n-preserved c =
    elim c.if-is_loaded.branch [
      | then-is_loaded w ↦ table-met _ _ c.loop-n.table _ _ c.is_loaded.ensures w.if-is_loaded.true w.table-is
      | else-is_loaded w ↦ table-stays _ _ _ _ _ c.is_loaded.ensures w.if-is_loaded.false w.table-is c.loop-n.invariant
    ]
