use Rattle.std.proofs.Common.{◌≡◌, ◌-◌, length}
use Rattle.elf_file.specs.Read.{headers_into}
use Rattle.elf_file.specs.Proof.LoopWays.{Sums}
use Rattle.elf_file.proofs.reading.ObjectFile.write_headers.Given as goal

abbrev pub invariant-loop-i : goal.invariant-loop-i
invariant-loop-i l =
    let f = l.self in
    (headers_into f.bytes.now l.names f.table.now l.initial.rows 0 0 0 f.sections ≡ headers_into f.bytes.now l.names f.table.now l.rows l.i l.e l.c (f.sections - l.i))
    × (length l.rows ≡ length l.initial.rows) × Sums f.table.now f.sections l.i l.e l.c
