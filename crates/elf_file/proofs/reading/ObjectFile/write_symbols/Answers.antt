use Rattle.std.proofs.Common.{rules}
use Rattle.elf_file.specs.Proof.LoopWays.{entries-left-start, entries-left-on, entries_fit, entries-past, all-symbols-start, all-symbols-on, all-symbols-end}
use Rattle.elf_file.proofs.reading.ObjectFile.write_symbols.Goals as goal

pub loop-i-init : goal.loop-i-init
loop-i-init c = search (rules, all-symbols-start, entries-left-start)

pub symbols-requires : goal.symbols-requires
symbols-requires c = search entries_fit

pub overflow_add-at : goal.overflow_add-at
overflow_add-at c = search entries-past

pub loop-i-preserved : goal.loop-i-preserved
loop-i-preserved c = (search all-symbols-on, search rules, search entries-left-on)

pub returns : goal.returns
returns c = search all-symbols-end
