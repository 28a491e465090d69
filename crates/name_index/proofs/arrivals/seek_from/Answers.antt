use Rattle.std.proofs.Common.{refl, subst}
use Rattle.name_index.specs.Named.{rows_in}
use Rattle.name_index.specs.Proof.Together.{Goes}
use Rattle.name_index.specs.Proof.Finding.{some-is, past-found}
use Rattle.name_index.proofs.arrivals.seek_from.Goals as goal

pub returns-in-Err : goal.returns-in-Err
returns-in-Err c place e =
    subst (Goes (rows_in c.args.rows) c.args.places.now c.args.name.now) (some-is e)
    (past-found (rows_in c.args.rows) c.args.places.now c.args.name.now c.requires.sorted c.args.low c.args.high c.requires.part c.in-Err.place _
    c.seek.result refl c.seek.ensures.met c.in-Err.is)
