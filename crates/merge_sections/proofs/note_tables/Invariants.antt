use Rattle.std.proofs.Common.{◌≡◌, ◌-◌}
use Rattle.merge_sections.specs.Notes.{each_from, note_table_of, note_tables_of}
use Rattle.merge_sections.proofs.note_tables.Given as goal

abbrev pub invariant-loop-t : goal.invariant-loop-t
invariant-loop-t l = note_tables_of l.object.headers.now l.initial.work ≡ each_from (note_table_of l.object.headers.now) (l.t-end - l.t) l.t l.work
