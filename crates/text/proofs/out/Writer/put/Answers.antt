use Rattle.std.proofs.Common.{refl, arith}
use Rattle.text.specs.Proof.WritingWays.{puts_short, puts_whole}
use Rattle.text.proofs.out.Writer.put.Goals as goal

pub returns-then-saturating_sub-x : goal.returns-then-saturating_sub-x
returns-then-saturating_sub-x c = puts_short _ _ _ refl (omega arith) refl

pub returns : goal.returns
returns c = puts_whole _ _ _ refl (omega arith) c.copy_in.ensures refl
