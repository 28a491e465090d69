use Rattle.std.proofs.lemmas.Result.{err_from_is_err_and}
use Rattle.archive_walk.specs.Proof.Ways.{pass-judged, pass-removed, pass-made}
use Rattle.archive_walk.proofs.Walk.pass.Goals as goal

pub returns-in_err-judge-clause-step : goal.returns-in_err-judge-clause-step
returns-in_err-judge-clause-step c =
    let p = err_from_is_err_and c.from_residual.result c.from_residual.ensures.1 in
    rw (p.1, p.2) (pass-judged _ _ _ _ _ (c.in_err-judge.ensures {u = tt}))

pub returns-in_err-survey-clause-step : goal.returns-in_err-survey-clause-step
returns-in_err-survey-clause-step c =
    let p = err_from_is_err_and c.from_residual-in_err-survey.result c.from_residual-in_err-survey.ensures.1 in
    let s = c.in_err-survey.ensures {u = tt} in
    rw (p.1, p.2) (pass-removed _ _ _ _ _ (c.in_ok-judge.ensures {u = tt}) _ (rw (c.read.ensures.0, c.read.ensures.1) at s.value))

pub returns-clause-step : goal.returns-clause-step
returns-clause-step c =
    let s = c.in_ok-survey.ensures {u = tt} in
    let h = rw (c.tie_all.ensures.same.1, c.tie_all.ensures.same.2, c.read-2.ensures.1) at c.hand_out.ensures in
    pass-made _ _ c.args.self.now _ _ (c.in_ok-judge.ensures {u = tt}) _ _ _ _ _ _ (rw (c.read.ensures.0, c.read.ensures.1) at s.value)
    c.requires.going c.tie_all.ensures.queue c.tie_all.ensures.rest h
