use Rattle.std.proofs.Common.{sym, ◌∙◌, arith}
use Rattle.text.specs.Proof.LinesWays.{end-here, end_on, end_none}
use Rattle.text.proofs.lines.line_end.Goals as goal

pub returns-then-byte_at-eq10 : goal.returns-then-byte_at-eq10
returns-then-byte_at-eq10 c = sym (c.loop-i.invariant.same ∙ end-here _ _ _ c.loop-i-test.true (sym c.byte_at.ensures ∙ c.if-byte_at-eq10.true))

pub loop-i-preserved : goal.loop-i-preserved
loop-i-preserved c =
    record {
      same = c.loop-i.invariant.same ∙ end_on _ _ _ c.loop-i-test.true (λ e. c.if-byte_at-eq10.false (c.byte_at.ensures ∙ e));
      most = omega arith;
    }

pub returns : goal.returns
returns c = sym (c.loop-i.invariant.same ∙ end_none _ _ _ c.loop-i-test.false ∙ omega arith)
