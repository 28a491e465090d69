use Rattle.std.proofs.Common.{sym, ◌∙◌, rules}
use Rattle.text.specs.Proof.Ways.{decimal-on, decimal-fails, decimal-end, decimal-none, decimal-some}
use Rattle.text.proofs.fields.decimal.Goals as goal

pub returns-then-is_empty : goal.returns-then-is_empty
returns-then-is_empty c = sym (decimal-none _ (search rules))

pub returns-in_err-n : goal.returns-in_err-n
returns-in_err-n c =
    c.from_residual.ensures
    ∙ sym (decimal-some _ (search rules) ∙ c.loop-b.invariant ∙ decimal-fails _ _ _ c.loop-b-test.true (sym c.digit_of.ensures ∙ c.in_err-n.was))

pub loop-b-preserved : goal.loop-b-preserved
loop-b-preserved c = c.loop-b.invariant ∙ decimal-on _ _ _ c.loop-b-test.true ∙ rw (sym c.digit_of.ensures ∙ c.in_ok-n.was)

pub returns : goal.returns
returns c = sym (decimal-some _ (search rules) ∙ c.loop-b.invariant ∙ decimal-end _ _ _ c.loop-b-test.false)
