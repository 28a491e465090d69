use Rattle.std.proofs.Common.{◌∙◌}
use Rattle.text.specs.Proof.LinesWays.{read-on, read-less}
use Rattle.text.proofs.lines.Lines.read_line.Goals as goal

pub loop-taken-smaller : goal.loop-taken-smaller
loop-taken-smaller g c = read-less _ _ _ _ _ _ _ _ c.loop-taken.invariant.1 c.settle.ensures c.in_default.is c.read_more.ensures c.read_more.auto.buf

pub loop-taken-preserved : goal.loop-taken-preserved
loop-taken-preserved g c = (c.read_more.auto.buf ∙ c.loop-taken.invariant.0, read-on _ _ _ _ _ _ _ _ c.loop-taken.invariant.1 c.settle.ensures c.in_default.is c.read_more.ensures)
