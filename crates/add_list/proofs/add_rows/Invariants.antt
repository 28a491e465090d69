use Rattle.link.specs.Judge.{none}
use Rattle.symbol_resolution.specs.Lent.{same_loans, table_in}
use Rattle.add_list.specs.AddList.{list_left}
use Rattle.add_list.specs.Proof.Ways.{Reached}
use Rattle.add_list.proofs.add_rows.Given as goal

abbrev pub invariant-loop-k : goal.invariant-loop-k
invariant-loop-k l =
    same_loans l.initial.table l.table
    × Reached l.k l.conversion l.adds l.rows (list_left (table_in l.initial.table) l.initial.ids none 0) (list_left (table_in l.table) l.ids none 0)
