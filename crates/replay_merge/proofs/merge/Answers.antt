use Rattle.std.proofs.Common.{refl}
use Rattle.replay_merge.specs.Proof.Ways.{merged-done}
use Rattle.replay_merge.proofs.merge.Goals as goal

pub returns-clause-done : goal.returns-clause-done
returns-clause-done c =
    merged-done _ _ _ _ _ _ _ _ _ _ _ _ _ _ _ _ _ _ _ _ c.cells-bytes.ensures.exact c.wide_rows-names.ensures.exact
    c.rows-symbols.ensures.exact c.wide_rows-sections.ensures.exact c.rows-inputs.ensures.exact c.cells-lists.ensures.exact
    c.rows-work.ensures.exact c.cells-ids.ensures.exact c.headers_of.ensures c.entries_of.ensures c.contents_of.ensures
    c.part_of.ensures.part c.merge_elf.ensures c.merged.ensures refl
