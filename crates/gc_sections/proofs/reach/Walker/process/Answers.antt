use Rattle.std.proofs.Common.{rules}
use Rattle.gc_sections.specs.Proof.EachWays.{each_on, each-end}
use Rattle.gc_sections.specs.Reach.{process_of}
use Rattle.gc_sections.proofs.reach.Walker.process.Goals as goal

pub loop-place-preserved : goal.loop-place-preserved
loop-place-preserved c = record {
  loans = search rules;
  walk = each_on _ _ _ _ _ _ c.loop-place-test.true c.visit.ensures.walk c.loop-place.invariant.walk;
}

pub returns-clause-walk : goal.returns-clause-walk
unfolding process_of
returns-clause-walk c = each-end _ _ _ _ _ c.loop-place-test.false c.loop-place.invariant.walk
