use Rattle.std.proofs.Common.{arith, sym, subst, ◌∙◌}
use Rattle.name_index.specs.Named.{rows_in}
use Rattle.name_index.specs.Proof.Ways.{rows-none}
use Rattle.name_index.specs.Proof.OneByOne.{Orderly, rows-orderly, rows-batch}
use Rattle.name_index.proofs.index.IndexMut.put_rows.Goals as goal

pub loop-next-preserved : goal.loop-next-preserved
loop-next-preserved c =
    let i = c.loop-next.invariant in
    let t = c.loop-next-test.true in
    let m = c.min-end.ensures in
    let r = rows_in c.args.rows in (
      c.put_batch.ensures.same ∙ i.0,
      subst (Orderly r) (sym c.put_batch.ensures.put) (rows-orderly r _ _ _ i.1),
      i.2 ∙ rows-batch r _ _ _ _ _ (omega (arith, t, m)) (omega (arith, m)) c.put_batch.ensures.put,
    )

pub returns-clause-put : goal.returns-clause-put
returns-clause-put c = sym (c.loop-next.invariant.2 ∙ rows-none _ _ _ _ c.loop-next-test.false)
