use Rattle.std.proofs.Common.{◌≡◌, ◌-◌}
use Rattle.std.specs.Prelude.{max}
use Rattle.elf_file.specs.Counts.{rows_to_members}
use Rattle.elf_file.proofs.counts.rows_to_members.Given as goal

abbrev pub invariant-loop-j : goal.invariant-loop-j
invariant-loop-j l = rows_to_members l.group 0 l.count ≡ max l.rows (rows_to_members l.group l.j (l.count - l.j))
