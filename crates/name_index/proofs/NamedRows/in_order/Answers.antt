use Rattle.std.proofs.Common.{arith, get_or, ◌-◌, sym, ◌∙◌}
use Rattle.name_index.specs.Named.{rows_in}
use Rattle.name_index.specs.Proof.Finding.{order-more, stood-less}
use Rattle.name_index.proofs.NamedRows.in_order.Goals as goal

pub loop-next-preserved : goal.loop-next-preserved
loop-next-preserved c =
    let r = rows_in c.args.self in
    let ids = c.args.ids.now in
    let n = c.loop-next.next in
    let z = c.loop-next.invariant.0 in (
      omega arith,
      order-more r ids n z c.loop-next.invariant.1
          (stood-less r (get_or ids (n - 1) 0) (get_or ids n 0) _ _ c.name_at.ensures c.name_at-in-loop-next.ensures (sym c.in-Less.is ∙ c.cmp.ensures)),
    )
