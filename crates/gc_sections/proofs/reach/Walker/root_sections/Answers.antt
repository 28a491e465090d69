use Rattle.std.proofs.Common.{rules}
use Rattle.gc_sections.specs.Proof.EachWays.{each_on, each-end}
use Rattle.gc_sections.proofs.reach.Walker.root_sections.Goals as goal

pub loop-i-preserved : goal.loop-i-preserved
loop-i-preserved c = record {
  loans = search rules;
  walk = each_on _ _ _ _ _ _ c.loop-i-test.true c.root_section.ensures.walk c.loop-i.invariant.walk;
}

pub returns-clause-walk : goal.returns-clause-walk
returns-clause-walk c = each-end _ _ _ _ _ c.loop-i-test.false c.loop-i.invariant.walk
