use Rattle.std.proofs.Common.{sym, ◌∙◌, refl}
use Rattle.std.proofs.lemmas.Result.{err_from_is_err_and}
use Rattle.shadowed_members.specs.Proof.Ways.{marked-none, shadowed-judged, shadowed-strange, shadowed-short, shadowed-listed}
use Rattle.shadowed_members.proofs.shadowed.Goals as goal

pub returns-in_err-judge : goal.returns-in_err-judge
returns-in_err-judge c =
    let p = err_from_is_err_and c.from_residual.result c.from_residual.ensures.1 in
    rw (p.1, p.2) (shadowed-judged _ _ _ _ _ _ (c.in_err-judge.ensures {u = tt}))

pub returns-then-not-fits : goal.returns-then-not-fits
returns-then-not-fits c =
    shadowed-strange _ _ _ _ _ _ (c.in_ok-judge.ensures {u = tt}) _ (sym c.fits.ensures ∙ c.if-not-fits.true) c.new.ensures

pub returns-then-told-walk : goal.returns-then-told-walk
returns-then-told-walk c =
    shadowed-short _ _ _ _ _ _ (c.in_ok-judge.ensures {u = tt}) (sym c.fits.ensures ∙ c.if-not-fits.false) _ c.if-told-walk.true c.new-then-told-walk.ensures

pub mark_all-requires : goal.mark_all-requires
mark_all-requires c = marked-none _ _ refl refl

pub returns : goal.returns
returns c =
    shadowed-listed _ _ _ _ _ _ (c.in_ok-judge.ensures {u = tt}) (sym c.fits.ensures ∙ c.if-not-fits.false) _ _ _ c.if-told-walk.false c.mark_all.ensures c.tell.ensures
