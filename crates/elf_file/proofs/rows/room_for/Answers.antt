use Rattle.std.proofs.Common.{sym, ◌∙◌}
use Rattle.elf_file.specs.Proof.LoopWays.{kept-start, kept_on, entries_room, contents_room, room-short, room-past, room_fits}
use Rattle.elf_file.proofs.rows.room_for.Goals as goal

pub returns-in_err-left : goal.returns-in_err-left
returns-in_err-left c = c.from_residual.ensures ∙ room-short _ _ _ (sym (c.in_err-left.was) ∙ c.left_after.ensures)

pub loop-i-init : goal.loop-i-init
loop-i-init c = kept-start _ _ _ _ (sym (c.in_ok-left.was) ∙ c.left_after.ensures)

pub returns-in_err-left-2 : goal.returns-in_err-left-2
returns-in_err-left-2 c =
    c.from_residual-in_err-left-2.ensures
    ∙ room-past _ _ _ _ _ _ _ _ _ c.loop-i.invariant c.loop-i-test.true c.at-h.ensures c.entries-entries.ensures c.contents-contents.ensures
    (sym (c.in_err-left-2.was) ∙ c.left_after-in-loop-i.ensures)

pub overflow_add-room : goal.overflow_add-room
overflow_add-room c = entries_room _ _ _ _ _ _ _ _ _ c.loop-i.invariant (sym (c.in_ok-left-2.was) ∙ c.left_after-in-loop-i.ensures) c.ranges.cells

pub overflow_add-room-in-loop-i : goal.overflow_add-room-in-loop-i
overflow_add-room-in-loop-i c = contents_room _ _ _ _ _ _ _ _ _ c.loop-i.invariant (sym (c.in_ok-left-2.was) ∙ c.left_after-in-loop-i.ensures) c.ranges.cells

pub loop-i-preserved : goal.loop-i-preserved
loop-i-preserved c =
    kept_on _ _ _ _ _ _ _ _ _ _ c.loop-i.invariant c.loop-i-test.true c.at-h.ensures c.entries-entries.ensures c.contents-contents.ensures
    (sym (c.in_ok-left-2.was) ∙ c.left_after-in-loop-i.ensures)

pub returns : goal.returns
returns c = room_fits _ _ _ _ _ _ c.loop-i.invariant c.loop-i-test.false
