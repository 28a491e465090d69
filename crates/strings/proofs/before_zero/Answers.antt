use Rattle.std.proofs.Common.{◌∙◌, sym}
use Rattle.strings.specs.Proof.Ways.{zero-first, zero-at}
use Rattle.strings.proofs.before_zero.Goals as goal

pub returns : goal.returns
returns c = c.unwrap_or.ensures ∙ sym (zero-at c.args.s.now c.memchr.result (zero-first c.args.s.now c.memchr.result c.memchr.ensures))
