use Rattle.text.specs.Proof.WritingWays.{decimal-put, puts_decimal}
use Rattle.text.proofs.out.Writer.put_decimal.Goals as goal

pub returns : goal.returns
returns c =
    record {
      pieces = puts_decimal _ _ _ _ _ c.decimal-k.ensures.digits c.decimal-k.ensures.len c.put.ensures;
      fewest = decimal-put _ _ _ _ _ c.decimal-k.ensures.digits c.decimal-k.ensures.len c.put.ensures;
    }
