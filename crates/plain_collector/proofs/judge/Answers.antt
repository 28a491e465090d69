use Rattle.std.proofs.Common.{sym, ap, ◌∙◌, Err}
use Rattle.plain_collector.specs.Proof.Ways.{plain-many, plain-first, plain-few}
use Rattle.plain_collector.proofs.judge.Goals as goal
use Rattle.plain_collector.proofs.judge.Goals.{else-not-comes_first-via-then-not-comes_first+else-count_built-gt-MOST_BUILT, else-not-comes_first-via-else-not-comes_first}

pub returns-then-count_built-gt-MOST_BUILT-clause-head :
    goal.returns-then-count_built-gt-MOST_BUILT-clause-head
returns-then-count_built-gt-MOST_BUILT-clause-head c =
    plain-many _ _ _ (sym (rw c.check-head.ensures at c.comes_first.ensures) ∙ c.if-not-comes_first.true) (rw c.count_built.ensures at c.if-count_built-gt-MOST_BUILT.true) (ap Err c.new.ensures)

pub returns-clause-head : goal.returns-clause-head
returns-clause-head c =
    elim c.else-not-comes_first.branch [
      | else-not-comes_first-via-then-not-comes_first+else-count_built-gt-MOST_BUILT w ↦ plain-few _ _ _ (rw w.count_built.ensures at w.if-count_built-gt-MOST_BUILT.false) c.judge.ensures.head
      | else-not-comes_first-via-else-not-comes_first w ↦ plain-first _ _ _ (sym (rw c.check-head.ensures at c.comes_first.ensures) ∙ w.if-not-comes_first.false) c.judge.ensures.head
    ]
