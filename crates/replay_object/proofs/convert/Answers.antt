use Rattle.std.proofs.Common.{rules}
use Rattle.std.proofs.Common.{rules}
use Rattle.replay_object.specs.Proof.Ways.{convert-start, convert-more, convert-end}
use Rattle.replay_object.proofs.convert.Goals as goal

pub loop-i-init : goal.loop-i-init
loop-i-init c = search (rules, convert-start)

pub loop-i-preserved : goal.loop-i-preserved
loop-i-preserved c = (
  convert-more _ _ _ _ _ _ _ c.loop-i-test.true c.field.ensures.result_value c.cell_of.ensures c.put.ensures
      c.loop-i.invariant.0,
  search rules,
)

pub returns : goal.returns
returns c = search convert-end
