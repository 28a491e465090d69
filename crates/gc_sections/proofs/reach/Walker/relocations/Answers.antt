use Rattle.std.proofs.Common.{rules}
use Rattle.gc_sections.specs.Proof.EachWays.{each_on, each-end}
use Rattle.gc_sections.specs.Reach.{relocations}
use Rattle.gc_sections.proofs.reach.Walker.relocations.Goals as goal

pub loop-j-init : goal.loop-j-init
unfolding relocations
loop-j-init c = rw (← c.end_of-j-end.ensures) (search rules)

pub loop-j-preserved : goal.loop-j-preserved
loop-j-preserved c = record {
  loans = search rules;
  walk = each_on _ _ _ _ _ _ c.loop-j-test.true c.relocation.ensures.walk c.loop-j.invariant.walk;
}

pub returns-clause-walk : goal.returns-clause-walk
returns-clause-walk c = each-end _ _ _ _ _ c.loop-j-test.false c.loop-j.invariant.walk
