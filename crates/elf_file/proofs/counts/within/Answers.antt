use Rattle.std.proofs.Common.{sym, ◌∙◌}
use Rattle.elf_file.specs.Proof.CountWays.{contents-held, counts-held, counts-past}
use Rattle.elf_file.proofs.counts.within.Goals as goal

pub counts_in-requires-clause-few : goal.counts_in-requires-clause-few
counts_in-requires-clause-few c = contents-held c.args.file.now _ _ _ _ (sym c.in-Some.is ∙ c.room_for.ensures) c.ranges.most

pub returns-in-Some : goal.returns-in-Some
returns-in-Some c =
    counts-held _ _ _ _ _ (sym c.in-Some.is ∙ c.room_for.ensures) _ c.counts_in.ensures c.header_table-table.ensures c.section_count-n.ensures

pub returns-in-None : goal.returns-in-None
returns-in-None c = rw c.new.ensures (counts-past _ _ _ _ (sym c.in-None.is ∙ c.room_for.ensures) c.header_table-table.ensures c.section_count-n.ensures)
