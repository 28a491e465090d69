use Rattle.std.proofs.Common.{arith, ◌∙◌}
use Rattle.plain_collector.specs.Proof.Ways.{visit-nowhere, visit-unbuilt, visit-again, visit-new, visit-lessens, visit-falls, visit-long, turn_on}
use Rattle.plain_collector.proofs.visit.Visitor.+visit.Goals as goal

pub visit-requires : goal.visit-requires
visit-requires t c = (
  visit-falls _ _ _ _ _ _ _ _ _ c.decreases c.requires c.is_built.ensures c.if-is_built.true c.cell.ensures c.if-cell-eq-UNREACHED.true
      c.put.ensures c.loop-j.invariant.less,
  visit-long _ _ _ _ c.requires c.put.auto.cells c.loop-j.invariant.keeps.long,
)

pub loop-j-preserved : goal.loop-j-preserved
loop-j-preserved t c =
    let long = visit-long _ _ _ _ c.requires c.put.auto.cells c.loop-j.invariant.keeps.long in
    let less = visit-lessens _ _ _ _ _ _ _ long c.visit.ensures.seen in
    record {
      keeps = record {
        name = c.visit.ensures.keeps.name ∙ c.loop-j.invariant.keeps.name;
        long = c.visit.ensures.keeps.long ∙ c.loop-j.invariant.keeps.long;
      };
      less = omega (arith, less, c.loop-j.invariant.less);
      seen = turn_on _ _ _ _ _ _ _ _ _ _ _ _ long c.loop-j.invariant.less c.loop-j-test.true c.get.ensures c.lead.ensures
          c.visit.ensures.seen c.loop-j.invariant.seen;
    }

pub returns-after-loop-j-clause-seen : goal.returns-after-loop-j-clause-seen
returns-after-loop-j-clause-seen t c = search visit-new

pub returns-else-cell-eq-UNREACHED-clause-seen : goal.returns-else-cell-eq-UNREACHED-clause-seen
returns-else-cell-eq-UNREACHED-clause-seen t c = search visit-again

pub returns-else-is_built-clause-seen : goal.returns-else-is_built-clause-seen
returns-else-is_built-clause-seen t c = search visit-unbuilt

pub returns-in_default-clause-seen : goal.returns-in_default-clause-seen
returns-in_default-clause-seen t c = search visit-nowhere
