use Rattle.std.proofs.Common.{sym, ◌∙◌}
use Rattle.text.specs.Proof.Ways.{start-on, start-end}
use Rattle.text.proofs.fields.start_of.Goals as goal

pub loop-preserved : goal.loop-preserved
loop-preserved c = c.loop.invariant ∙ start-on _ _ _ _ c.loop-test.true ∙ rw c.next_field-at.ensures

pub returns : goal.returns
returns c = sym (c.loop.invariant ∙ start-end _ _ _ _ c.loop-test.false)
