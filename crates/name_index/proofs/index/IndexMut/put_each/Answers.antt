use Rattle.std.proofs.Common.{◌∙◌, sym, ap, ◌-◌, ◌+◌}
use Rattle.name_index.specs.Named.{rows_in}
use Rattle.name_index.specs.Index.{Index, rows_put}
use Rattle.name_index.specs.Proof.Ways.{rows-more, rows-none}
use Rattle.name_index.proofs.index.IndexMut.put_each.Goals as goal

pub loop-id-preserved : goal.loop-id-preserved
loop-id-preserved c =
    let at = c.loop-id.id in (
      c.put_row.ensures.same ∙ c.loop-id.invariant.0,
      c.loop-id.invariant.1 ∙ rows-more _ _ _ at c.loop-id-test.true
          ∙ sym (ap (λ (i : Index). rows_put (rows_in c.args.rows) i (at + 1) (c.args.to - (at + 1))) c.put_row.ensures.put),
    )

pub returns-clause-put : goal.returns-clause-put
returns-clause-put c = sym (c.loop-id.invariant.1 ∙ rows-none _ _ _ _ c.loop-id-test.false)
