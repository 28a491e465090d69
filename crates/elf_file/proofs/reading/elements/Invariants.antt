use Rattle.std.proofs.Common.{◌≡◌, ◌-◌, length}
use Rattle.elf_file.specs.Read.{elements_into}
use Rattle.elf_file.proofs.reading.elements.Given as goal

abbrev pub invariant-loop-j : goal.invariant-loop-j
invariant-loop-j l = (elements_into l.kind l.bytes l.initial.rows l.at 0 l.count ≡ elements_into l.kind l.bytes l.rows l.at l.j (l.count - l.j)) × (length l.rows ≡ length l.initial.rows)
