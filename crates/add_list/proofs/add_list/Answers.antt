use Rattle.std.proofs.Common.{lt-ltb, le-ltb}
use Rattle.add_list.specs.AddList.{add_list_of}
use Rattle.add_list.specs.Proof.Items.{items-length}
use Rattle.add_list.proofs.add_list.Goals as goal

pub returns-then-table-clause-left : goal.returns-then-table-clause-left
unfolding add_list_of
returns-then-table-clause-left c = simp (c.if-table.true, c.refused.ensures)

pub returns-then-ids-adds-clause-left : goal.returns-then-ids-adds-clause-left
unfolding add_list_of
returns-then-ids-adds-clause-left c = simp (c.if-table.false, c.refused-then-ids-adds.ensures, items-length, lt-ltb _ _ c.if-ids-adds.true)

pub returns-clause-left : goal.returns-clause-left
unfolding add_list_of
returns-clause-left c = simp (c.add_rows.ensures.left, c.if-table.false, items-length, le-ltb _ _ c.if-ids-adds.false)
