use Rattle.std.proofs.Common.{arith, sym, ◌∙◌}
use Rattle.archive_walk.specs.Proof.Ways.{fits-room}
use Rattle.archive_walk.proofs.Walk.next.Goals as goal

pub pass-requires-clause-entries_bound : goal.pass-requires-clause-entries_bound
pass-requires-clause-entries_bound c =
    let r = fits-room _ _ _ (sym c.fits.ensures.value ∙ c.if-not-fits.false) in
    omega (arith, r.members, c.fits.ensures.bound c.if-not-fits.false)

pub pass-requires-clause-passes_bound : goal.pass-requires-clause-passes_bound
pass-requires-clause-passes_bound c =
    let r = fits-room _ _ _ (sym c.fits.ensures.value ∙ c.if-not-fits.false) in
    omega (arith, r.members, r.passed, c.fits.ensures.bound c.if-not-fits.false)
