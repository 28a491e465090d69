use Rattle.std.proofs.Common.{arith, rules, sym, ◌∙◌, eq-eqb, ne_eqb}
use Rattle.archive_file.specs.Proof.Ways.{until-stop, until-on, until-all}
use Rattle.archive_file.proofs.until.Goals as goal

pub returns-then-x-k : goal.returns-then-x-k
returns-then-x-k c = until-stop _ _ _ (search rules) (eq-eqb _ _ c.if-x-k.true) c.loop-k.invariant

pub loop-k-preserved : goal.loop-k-preserved
loop-k-preserved c = until-on _ _ _ (search rules) (ne_eqb _ _ c.if-x-k.false) c.loop-k.invariant

pub returns : goal.returns
returns c = until-all _ _ _ (search rules) c.loop-k.invariant
