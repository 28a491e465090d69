use Rattle.std.proofs.Common.{◌≡◌, ◌-◌, ◌+◌}
use Rattle.std.specs.Prelude.{max}
use Rattle.elf_file.specs.Counts.{listed_count, rows_to_listed}
use Rattle.elf_file.proofs.counts.members_of.Given as goal

abbrev pub invariant-loop-i : goal.invariant-loop-i
invariant-loop-i l =
    (l.listed.count + listed_count l.table l.i (l.n - l.i) ≡ listed_count l.table 0 l.n)
    × (rows_to_listed l.file l.table 0 l.n ≡ max l.listed.rows (rows_to_listed l.file l.table l.i (l.n - l.i)))
