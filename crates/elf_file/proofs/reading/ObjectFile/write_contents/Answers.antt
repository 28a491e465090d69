use Rattle.std.proofs.Common.{rules}
use Rattle.elf_file.specs.Proof.LoopWays.{contents-left-start, contents-left-on, contents-fit, contents-past, all-elements-start, all-elements-on, all-elements-end}
use Rattle.elf_file.proofs.reading.ObjectFile.write_contents.Goals as goal

pub loop-i-init : goal.loop-i-init
loop-i-init c = search (rules, all-elements-start, contents-left-start)

pub elements-requires : goal.elements-requires
elements-requires c = search contents-fit

pub overflow_add-at : goal.overflow_add-at
overflow_add-at c = search contents-past

pub loop-i-preserved : goal.loop-i-preserved
loop-i-preserved c = (search all-elements-on, search rules, search contents-left-on)

pub returns : goal.returns
returns c = search all-elements-end
