use Rattle.std.proofs.Common.{rules, sym}
use Rattle.section_groups.specs.Proof.AloneWays.{head-refused, group-taken}
use Rattle.section_groups.proofs.alone.add_group.Goals as goal

pub returns-in-Err : goal.returns-in-Err
returns-in-Err c = head-refused _ _ _ _ (sym c.in-Err.ensures)

pub returns : goal.returns
returns c =
    let g = c.take_group-answer.new.self in
    group-taken _ _ _ _ _ _ _ g.bytes.now g.names.now g.work.now _ _ (search rules) (search rules) (search rules) (sym c.in_default.ensures)
    (rw c.symbols_of.ensures at c.take_group-answer.ensures.value) c.take_group-answer.ensures.numbered
