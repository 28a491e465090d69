use Rattle.std.proofs.Common.{sym, ◌∙◌, arith, Bool, true, false, ◌≡◌, refl}
use Rattle.std.proofs.Math.Bool.{not}
use Rattle.text.specs.Proof.Ways.{run_on, run-stop, run_out}
use Rattle.text.proofs.fields.run_end.Goals as goal

not_true : (b : Bool) → not b ≡ true → b ≡ false
not_true false e = refl
not_true true e = sym e

not_false : (b : Bool) → not b ≡ false → b ≡ true
not_false false e = sym e
not_false true e = refl

pub returns-then-is_separator-separators : goal.returns-then-is_separator-separators
returns-then-is_separator-separators c = sym (c.loop-i.invariant.same ∙ run-stop _ _ _ c.loop-i-test.true (rw (← c.is_separator.ensures) (not_true _ c.if-is_separator-separators.true)))

pub loop-i-preserved : goal.loop-i-preserved
loop-i-preserved c =
    record {
      same = c.loop-i.invariant.same ∙ run_on _ _ _ c.loop-i-test.true (rw (← c.is_separator.ensures) (not_false _ c.if-is_separator-separators.false));
      most = omega arith;
    }

pub returns : goal.returns
returns c = sym (c.loop-i.invariant.same ∙ run_out _ _ _ c.loop-i-test.false ∙ omega arith)
