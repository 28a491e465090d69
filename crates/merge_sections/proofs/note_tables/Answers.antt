use Rattle.merge_sections.specs.Notes.{note_tables_of}
use Rattle.merge_sections.specs.Proof.Ways.{each_start, each-end, each_on}
use Rattle.merge_sections.proofs.note_tables.Goals as goal

pub loop-t-init : goal.loop-t-init
unfolding note_tables_of
loop-t-init c = rw c.section_count-t-end.ensures (each_start _ _ _)

pub loop-t-preserved : goal.loop-t-preserved
loop-t-preserved c = search each_on

pub returns : goal.returns
returns c = search each-end
