use Rattle.std.proofs.Common.{rules}
use Rattle.elf_file.specs.Proof.LoopWays.{sums-start, sums_on, entries-add, contents-add, headers-start, headers-on, headers-end}
use Rattle.elf_file.proofs.reading.ObjectFile.write_headers.Goals as goal

pub loop-i-init : goal.loop-i-init
loop-i-init c = search (rules, headers-start, sums-start)

pub overflow_add-e : goal.overflow_add-e
overflow_add-e c = search entries-add

pub overflow_add-c : goal.overflow_add-c
overflow_add-c c = search contents-add

pub loop-i-preserved : goal.loop-i-preserved
loop-i-preserved c = (search headers-on, search rules, search sums_on)

pub returns : goal.returns
returns c = search headers-end
