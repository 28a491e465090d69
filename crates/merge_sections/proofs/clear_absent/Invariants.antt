use Rattle.std.proofs.Common.{◌≡◌, ◌-◌}
use Rattle.elf_object.specs.Rows.{rows_in}
use Rattle.merge_sections.specs.Notes.{each_from, clear_one_of, clear_all_of}
use Rattle.merge_sections.proofs.clear_absent.Given as goal

abbrev pub invariant-loop-i : goal.invariant-loop-i
invariant-loop-i l =
    clear_all_of l.rows l.entries l.initial.work
    ≡ each_from (clear_one_of l.rows l.entries) (rows_in l.entries - l.i) l.i l.work
