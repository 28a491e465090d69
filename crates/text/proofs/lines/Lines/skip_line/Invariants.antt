use Rattle.std.proofs.Common.{◌≡◌, length}
use Rattle.text.specs.Next.{Skipped}
use Rattle.text.proofs.lines.Lines.skip_line.Given as goal

abbrev pub invariant-loop : goal.invariant-loop
invariant-loop g l = (length l.buf ≡ length l.initial.buf) × Skipped l.buf l.self
