use Rattle.std.proofs.Common.{arith}
use Rattle.gc_sections.specs.Proof.EachWays.{each_on, each-end}
use Rattle.plain_collector.specs.Proof.Ways.{one-built, one-other}
use Rattle.plain_collector.proofs.count_built.Goals as goal
use Rattle.plain_collector.proofs.count_built.Goals.{then-is_built, else-is_built}

pub loop-i-preserved : goal.loop-i-preserved
loop-i-preserved c =
    elim c.if-is_built.branch [
      | then-is_built w ↦ record {
        few = omega arith;
        counted = each_on _ _ _ _ _ _ c.loop-i-test.true (one-built _ _ _ _ _ _ c.is_built.ensures w.if-is_built.true w.count-is) c.loop-i.invariant.counted;
      }
      | else-is_built w ↦ record {
        few = omega arith;
        counted = each_on _ _ _ _ _ _ c.loop-i-test.true (one-other _ _ _ _ _ _ c.is_built.ensures w.if-is_built.false w.count-is) c.loop-i.invariant.counted;
      }
    ]

pub returns : goal.returns
returns c = each-end _ _ _ _ _ c.loop-i-test.false c.loop-i.invariant.counted
