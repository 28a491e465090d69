use Rattle.std.proofs.lemmas.Result.{err_from_is_err_and}
use Rattle.object_requirement.specs.Matches.{matches_of}
use Rattle.object_requirement.specs.Proof.Ways.{match-refused, match-strange, match-answered}
use Rattle.object_requirement.proofs.ObjectRequirement.matches.Goals as goal

pub returns-in_err-judge : goal.returns-in_err-judge
unfolding matches_of
returns-in_err-judge c =
    let p = err_from_is_err_and c.from_residual.result c.from_residual.ensures.1 in
    rw (p.1, p.2) (match-refused _ _ _ _ (c.in_err-judge.ensures {u = tt}))

pub returns-then-not-is_offered : goal.returns-then-not-is_offered
unfolding matches_of
returns-then-not-is_offered c =
    match-strange _ _ _ _ (c.in_ok-judge.ensures {u = tt}) _ (c.if-not-is_offered.ensures {u = tt}) c.new.ensures

pub returns : goal.returns
unfolding matches_of
returns c =
    match-answered _ _ _ _ (c.in_ok-judge.ensures {u = tt}) _ (c.if-not-is_offered.ensures {u = tt}) c.is_in_object.ensures
