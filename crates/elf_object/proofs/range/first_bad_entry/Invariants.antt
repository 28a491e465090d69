use Rattle.std.proofs.Common.{◌≡◌, ◌-◌}
use Rattle.elf_object.specs.Rows.{rows_in}
use Rattle.elf_object.specs.Judge.{first_bad, entry_ok, bad_entry}
use Rattle.elf_object.proofs.range.first_bad_entry.Given as goal

abbrev pub invariant-loop-i : goal.invariant-loop-i
invariant-loop-i l = bad_entry l.entries ≡ first_bad (entry_ok l.entries) l.i (rows_in l.entries - l.i)
