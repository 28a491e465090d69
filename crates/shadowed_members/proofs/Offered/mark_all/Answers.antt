use Rattle.std.proofs.Common.{ap, ◌∙◌}
use Rattle.archive_index.specs.Rows.{member_at}
use Rattle.shadowed_members.specs.Proof.Ways.{marked-on}
use Rattle.shadowed_members.proofs.Offered.mark_all.Goals as goal

pub loop-i-preserved : goal.loop-i-preserved
loop-i-preserved c =
    let q = c.field-entry.ensures in
    let r = c.field.ensures in
    marked-on _ _ _ _ _ (r ∙ ap (member_at c.args.entries.cells.now) q) c.mark.ensures c.loop-i.invariant
