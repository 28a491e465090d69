use Rattle.std.proofs.Common.{rules}
use Rattle.interner.specs.Proof.Ways.{head-short, head-eight, head-fits, head_at}
use Rattle.interner.proofs.head_cell.Goals as goal

pub returns-then-name_rows-l : goal.returns-then-name_rows-l
returns-then-name_rows-l c = search head-short

pub overflow_mul-result : goal.overflow_mul-result
overflow_mul-result c = search (rules, head-eight)

pub overflow_add-result : goal.overflow_add-result
overflow_add-result c = search (rules, head-fits)

pub returns : goal.returns
returns c = search head_at
