use Rattle.std.proofs.Common.{rules, sym, ap, ◌∙◌, Err}
use Rattle.std.proofs.lemmas.Result.{err_from_is_err_and}
use Rattle.archive_index.specs.Proof.Ways.{open-many, open-refused, open-made}
use Rattle.archive_index.proofs.opening.open.Goals as goal

pub returns-then-archives-gt-ARCHIVE_BOUND : goal.returns-then-archives-gt-ARCHIVE_BOUND
returns-then-archives-gt-ARCHIVE_BOUND c = search (rules, open-many)

pub returns-in_err-judge : goal.returns-in_err-judge
returns-in_err-judge c =
    let p = err_from_is_err_and c.from_residual.result c.from_residual.ensures.1 in
    open-refused _ _ c.if-archives-gt-ARCHIVE_BOUND.false _ _ _ (sym c.in_err-judge.was ∙ c.judge.ensures) (search rules) (p.1 ∙ ap Err p.2)

pub returns : goal.returns
returns c =
    open-made _ _ c.if-archives-gt-ARCHIVE_BOUND.false _ _ _ (sym c.in_ok-judge.was ∙ c.judge.ensures) c.enter_archives.ensures (search (rules, c.entries.ensures))
