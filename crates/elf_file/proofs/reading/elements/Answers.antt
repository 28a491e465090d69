use Rattle.std.proofs.Common.{rules}
use Rattle.elf_file.specs.Proof.LoopWays.{elements-start, elements-on, elements-end}
use Rattle.elf_file.proofs.reading.elements.Goals as goal

pub loop-j-init : goal.loop-j-init
loop-j-init c = search (rules, elements-start)

pub loop-j-preserved : goal.loop-j-preserved
loop-j-preserved c = search (rules, elements-on)

pub returns : goal.returns
returns c = search elements-end
