use Rattle.std.proofs.Common.{◌∙◌}
use Rattle.gc_sections.specs.Proof.EachWays.{each_on, each-end}
use Rattle.plain_collector.specs.Proof.Ways.{symbol-turn, section-turn, roots-all}
use Rattle.plain_collector.proofs.visit.Visitor.visit_roots.Goals as goal

pub loop-symbol-preserved : goal.loop-symbol-preserved
loop-symbol-preserved c = record {
  keeps = record {
    name = c.visit.ensures.keeps.name ∙ c.loop-symbol.invariant.keeps.name;
    long = c.visit.ensures.keeps.long ∙ c.loop-symbol.invariant.keeps.long;
  };
  seen = each_on _ _ _ _ _ _ c.loop-symbol-test.true (symbol-turn _ _ _ _ _ _ _ _ _ c.marked_lead.ensures c.visit.ensures.seen) c.loop-symbol.invariant.seen;
}

pub loop-section-preserved : goal.loop-section-preserved
loop-section-preserved c = record {
  keeps = record {
    name = c.visit-in-loop-section.ensures.keeps.name ∙ c.loop-section.invariant.keeps.name;
    long = c.visit-in-loop-section.ensures.keeps.long ∙ c.loop-section.invariant.keeps.long;
  };
  seen = each_on _ _ _ _ _ _ c.loop-section-test.true (section-turn _ _ _ _ _ _ _ _ _ _ c.root_lead.ensures c.visit-in-loop-section.ensures.seen) c.loop-section.invariant.seen;
}

pub returns-clause-seen : goal.returns-clause-seen
returns-clause-seen c =
    roots-all c.args.graph.now c.args.entry _ _ _ _ _ (each-end _ _ _ _ _ c.loop-symbol-test.false c.loop-symbol.invariant.seen)
    (each-end _ _ _ _ _ c.loop-section-test.false c.loop-section.invariant.seen) c.entry_lead.ensures c.visit-2.ensures.seen
