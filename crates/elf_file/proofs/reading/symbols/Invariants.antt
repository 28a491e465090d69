use Rattle.std.proofs.Common.{◌≡◌, ◌-◌, length}
use Rattle.elf_file.specs.Read.{symbols_into}
use Rattle.elf_file.proofs.reading.symbols.Given as goal

abbrev pub invariant-loop-j : goal.invariant-loop-j
invariant-loop-j l = (symbols_into l.bytes l.initial.rows l.at 0 l.count ≡ symbols_into l.bytes l.rows l.at l.j (l.count - l.j)) × (length l.rows ≡ length l.initial.rows)
