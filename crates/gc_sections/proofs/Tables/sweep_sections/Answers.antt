use Rattle.std.proofs.Common.{rules, arith}
use Rattle.gc_sections.specs.Proof.EachWays.{each_on, each-end}
use Rattle.gc_sections.specs.Proof.RunWays.{drop-stays, drop-goes}
use Rattle.gc_sections.proofs.Tables.sweep_sections.Goals as goal
use Rattle.gc_sections.proofs.Tables.sweep_sections.Goals.{then-is_unreached, else-is_unreached}

pub loop-i-preserved : goal.loop-i-preserved
loop-i-preserved c =
    elim c.if-is_unreached.branch [
      | then-is_unreached w ↦ record {
        few = omega arith;
        keeps = rw w.self-is (search rules);
        symbols = rw w.self-is (search rules);
        swept = each_on _ _ _ _ _ _ c.loop-i-test.true (drop-goes _ _ _ _ _ (rw c.loop-i.invariant.keeps.link at c.is_unreached.ensures) w.if-is_unreached.true (search rules)) c.loop-i.invariant.swept;
      }
      | else-is_unreached w ↦ record {
        few = omega arith;
        keeps = rw w.self-is (search rules);
        symbols = rw w.self-is (search rules);
        swept = each_on _ _ _ _ _ _ c.loop-i-test.true (drop-stays _ _ _ _ _ (rw c.loop-i.invariant.keeps.link at c.is_unreached.ensures) w.if-is_unreached.false (search rules)) c.loop-i.invariant.swept;
      }
    ]

pub returns-clause-swept : goal.returns-clause-swept
returns-clause-swept c = each-end _ _ _ _ _ c.loop-i-test.false c.loop-i.invariant.swept
