use Rattle.std.proofs.Common.{◌≡◌, ◌-◌, ◌+◌, length}
use Rattle.elf_file.specs.Rows.{content_count}
use Rattle.elf_file.specs.Read.{all_elements_into}
use Rattle.elf_file.proofs.reading.ObjectFile.write_contents.Given as goal

abbrev pub invariant-loop-i : goal.invariant-loop-i
invariant-loop-i l =
    let f = l.self in
    (all_elements_into f.bytes.now f.table.now l.initial.rows l.start 0 f.sections ≡ all_elements_into f.bytes.now f.table.now l.rows l.at l.i (f.sections - l.i))
    × (length l.rows ≡ length l.initial.rows)
    × (l.at + content_count f.table.now l.i (f.sections - l.i) ≡ l.start + content_count f.table.now 0 f.sections)
