use Rattle.std.proofs.Common.{◌≡◌, ◌-◌, ◌+◌, length}
use Rattle.elf_file.specs.Rows.{entry_count}
use Rattle.elf_file.specs.Read.{all_symbols_into}
use Rattle.elf_file.proofs.reading.ObjectFile.write_symbols.Given as goal

abbrev pub invariant-loop-i : goal.invariant-loop-i
invariant-loop-i l =
    let f = l.self in
    (all_symbols_into f.bytes.now f.table.now l.initial.rows l.start 0 f.sections ≡ all_symbols_into f.bytes.now f.table.now l.rows l.at l.i (f.sections - l.i))
    × (length l.rows ≡ length l.initial.rows)
    × (l.at + entry_count f.table.now l.i (f.sections - l.i) ≡ l.start + entry_count f.table.now 0 f.sections)
