use Rattle.std.proofs.Common.{◌≡◌, ◌-◌}
use Rattle.elf_object.specs.Judge.{first_bad}
use Rattle.elf_file.specs.Check.{table_ok, bad_table}
use Rattle.elf_file.proofs.checks.bad_table.Given as goal

abbrev pub invariant-loop-i : goal.invariant-loop-i
invariant-loop-i l = bad_table l.len l.table l.n ≡ first_bad (table_ok l.len l.table) l.i (l.n - l.i)
