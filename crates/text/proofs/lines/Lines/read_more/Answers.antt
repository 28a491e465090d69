use Rattle.std.proofs.Common.{rules}
use Rattle.text.specs.Proof.LinesWays.{kept-before, read-ok}
use Rattle.text.proofs.lines.Lines.read_more.Goals as goal

pub returns-in-Ok : goal.returns-in-Ok
returns-in-Ok g c = read-ok _ _ _ _ _ _ c.longer-self.ensures (search rules) (kept-before _ _ _ c.if-buf-end.false)
