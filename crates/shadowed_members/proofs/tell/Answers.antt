use Rattle.std.proofs.Common.{arith, ◌∙◌, []}
use Rattle.shadowed_members.specs.Proof.Ways.{those-take, those-leave, count-take, count-leave, those-end}
use Rattle.shadowed_members.proofs.tell.Goals.{then-entry_told, else-entry_told}
use Rattle.shadowed_members.proofs.tell.Goals as goal

pub loop-k-preserved : goal.loop-k-preserved
loop-k-preserved c =
    let i = c.loop-k.invariant in
    let told = c.entry_told.ensures in
    elim c.if-entry_told.branch [
      | then-entry_told w ↦ record {
        cells = those-take _ _ _ _ _ _ _ _ _ 0 c.loop-k-test.true told w.if-entry_told.true w.n-is (w.told-is ∙ w.put.ensures) i.cells;
        many = count-take _ _ _ _ _ _ [] _ _ _ c.loop-k-test.true told w.if-entry_told.true w.n-is (w.told-is ∙ w.put.ensures) i.many;
        room = omega (arith, w.n-is, i.room);
      }
      | else-entry_told w ↦ record {
        cells = those-leave _ _ _ _ _ _ _ _ _ 0 c.loop-k-test.true told w.if-entry_told.false w.n-is w.told-is i.cells;
        many = count-leave _ _ _ _ _ _ [] _ _ _ c.loop-k-test.true told w.if-entry_told.false w.n-is w.told-is i.many;
        room = omega (arith, w.n-is, i.room);
      }
    ]

pub returns : goal.returns
returns c = those-end _ _ _ _ _ _ c.loop-k-test.false c.loop-k.invariant.cells c.loop-k.invariant.many
