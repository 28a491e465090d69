use Rattle.std.proofs.Common.{◌≡◌, length}
use Rattle.text.specs.Line.{settle_of}
use Rattle.text.specs.Next.{ReadLine}
use Rattle.text.specs.Proof.LinesWays.{reads_left}
use Rattle.text.proofs.lines.Lines.read_line.Given as goal

abbrev pub invariant-loop-taken : goal.invariant-loop-taken
invariant-loop-taken g l = (length l.buf ≡ length l.initial.buf) × ReadLine l.initial.buf l.initial.self.end l.buf (settle_of l.buf l.self)

abbrev pub decreases-loop-taken : goal.decreases-loop-taken
decreases-loop-taken g l = reads_left l.buf (settle_of l.buf l.self)
