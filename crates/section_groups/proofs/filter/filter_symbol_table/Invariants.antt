use Rattle.std.proofs.Common.{◌≡◌, ◌-◌}
use Rattle.elf_object.specs.Judge.{first_bad}
use Rattle.elf_object.specs.Rows.{rows_in}
use Rattle.section_groups.specs.Filter.{symbol_ok, filter_of}
use Rattle.section_groups.proofs.filter.filter_symbol_table.Given as goal

abbrev pub invariant-loop-i : goal.invariant-loop-i
invariant-loop-i l = filter_of l.gabi l.work l.entries ≡ first_bad (symbol_ok l.gabi l.work l.entries) l.i (rows_in l.entries - l.i)
