use Rattle.std.proofs.Common.{◌∙◌, sym, ap, arith, set, [], ◌+◌}
use Rattle.untaken_member.specs.Untaken.{told_of}
use Rattle.untaken_member.specs.Proof.Ways.{told-take, told-leave, count-take, count-leave, told-end}
use Rattle.untaken_member.proofs.tell.Goals.{in-Some, in_default}
use Rattle.untaken_member.proofs.tell.Goals as goal

pub loop-i-preserved : goal.loop-i-preserved
loop-i-preserved c =
    let i = c.loop-i.invariant in
    let told = c.told_at.ensures in
    let h = rw c.symbol_count-i-end.ensures at c.loop-i-test.true in
    elim c.match-told_at.branch [
      | in-Some w ↦
          let f = w.told-is ∙ w.put-in-Some.ensures ∙ ap (λ x. set x (c.loop-i.at + 1) w.in-Some.id.0) w.put.ensures in
          record {
            cells = told-take _ _ _ _ _ _ _ _ 0 h _ (sym w.in-Some.is ∙ told) w.at-is f i.cells;
            many = count-take _ _ _ _ _ [] _ _ _ h _ (sym w.in-Some.is ∙ told) w.at-is f i.many;
            room = omega (arith, w.at-is, i.room);
          }
      | in_default w ↦ record {
        cells = told-leave _ _ _ _ _ _ _ _ 0 h (sym w.in_default.is ∙ told) w.at-is w.told-is i.cells;
        many = count-leave _ _ _ _ _ [] _ _ _ h (sym w.in_default.is ∙ told) w.at-is w.told-is i.many;
        room = omega (arith, w.at-is, i.room);
      }
    ]

pub returns : goal.returns
unfolding told_of
returns c = told-end _ _ _ _ _ _ (rw c.symbol_count-i-end.ensures at c.loop-i-test.false) c.loop-i.invariant.cells c.loop-i.invariant.many
