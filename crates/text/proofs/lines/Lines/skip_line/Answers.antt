use Rattle.std.proofs.Common.{refl}
use Rattle.text.specs.Proof.LinesWays.{skipped-none}
use Rattle.text.proofs.lines.Lines.skip_line.Goals as goal

pub loop-init : goal.loop-init
loop-init g c = (refl, skipped-none _ _ _)
