use Rattle.std.proofs.Common.{sym, ap, ◌∙◌, refl, Err}
use Rattle.std.proofs.lemmas.Result.{err_from_is_err_and}
use Rattle.link.specs.Proof.Judged.{judged-fine}
use Rattle.gc_sections.specs.Tables.{head_of}
use Rattle.plain_collector.specs.Proof.Ways.{run-refused, run-done, reached-shown, work-lent}
use Rattle.plain_collector.proofs.collect.Goals as goal

pub returns-in_err-graph-clause-left : goal.returns-in_err-graph-clause-left
returns-in_err-graph-clause-left c =
    let p = err_from_is_err_and c.from_residual.result c.from_residual.ensures.1 in
    run-refused _ _ _ _ _ _ _ _ (sym c.judge.ensures.head ∙ ap head_of c.in_err-graph.was) (rw (p.1 ∙ ap Err p.2) refl)

pub reach-unbuilt-requires : goal.reach-unbuilt-requires
reach-unbuilt-requires c =
    rw c.in_ok-graph.ensures.graph.link (work-lent _ _ _ _ _ _ refl (judged-fine _ _ (sym c.judge.ensures.head ∙ ap head_of c.in_ok-graph.was)))

pub returns-clause-left : goal.returns-clause-left
returns-clause-left c =
    let e = reached-shown _ _ _ c.args.entry c.args.work.now c.in_ok-graph.ensures.graph in
    run-done _ _ _ _ _ _ _ _ _ (sym c.judge.ensures.head ∙ ap head_of c.in_ok-graph.was) e
    (rw (c.reach-unbuilt.ensures.work, c.reach-unbuilt.ensures.unbuilt) at c.finish.ensures.left)
