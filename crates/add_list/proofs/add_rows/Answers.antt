use Rattle.std.proofs.Common.{arith, refl, ◌∙◌}
use Rattle.add_list.specs.Proof.Ways.{reached-start, reached-end, reached-stop, reached-on}
use Rattle.add_list.proofs.add_rows.Goals as goal

pub loop-k-init : goal.loop-k-init
loop-k-init c = ((refl, refl, refl), reached-start _ _ _)

pub returns-in-Err-clause-left : goal.returns-in-Err-clause-left
returns-in-Err-clause-left c = reached-stop _ _ _ _ _ _ _ c.loop-k-test.true c.in-Err.ensures.left c.loop-k.invariant.1 c.in-Err.ensures.number

pub loop-k-preserved : goal.loop-k-preserved
loop-k-preserved c =
    let s = c.in_default.ensures.same in
    let i = c.loop-k.invariant.0 in
    ((s.0 ∙ i.0, s.1 ∙ i.1, s.2 ∙ i.2), reached-on _ _ _ _ _ _ _ c.loop-k-test.true c.in_default.ensures.left c.loop-k.invariant.1 refl)

pub returns-clause-left : goal.returns-clause-left
returns-clause-left c = reached-end _ _ _ _ _ _ c.loop-k.invariant.1 (omega arith) (omega arith)
