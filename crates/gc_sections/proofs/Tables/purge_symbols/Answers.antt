use Rattle.std.proofs.Common.{rules, arith}
use Rattle.gc_sections.specs.Proof.EachWays.{each_on, each-end}
use Rattle.gc_sections.specs.Proof.RunWays.{purge-stays, purge-goes}
use Rattle.gc_sections.proofs.Tables.purge_symbols.Goals as goal
use Rattle.gc_sections.proofs.Tables.purge_symbols.Goals.{then-falls, else-falls}

pub loop-i-preserved : goal.loop-i-preserved
loop-i-preserved c =
    elim c.if-falls.branch [
      | then-falls w ↦ record {
        few = omega arith;
        keeps = rw w.self-is (search rules);
        purged = each_on _ _ _ _ _ _ c.loop-i-test.true (purge-goes _ _ _ _ _ _ (rw c.loop-i.invariant.keeps.link at c.falls.ensures) w.if-falls.true (search rules)) c.loop-i.invariant.purged;
      }
      | else-falls w ↦ record {
        few = omega arith;
        keeps = rw w.self-is (search rules);
        purged = each_on _ _ _ _ _ _ c.loop-i-test.true (purge-stays _ _ _ _ _ _ (rw c.loop-i.invariant.keeps.link at c.falls.ensures) w.if-falls.false (search rules)) c.loop-i.invariant.purged;
      }
    ]

pub returns-clause-purged : goal.returns-clause-purged
returns-clause-purged c = each-end _ _ _ _ _ c.loop-i-test.false c.loop-i.invariant.purged
