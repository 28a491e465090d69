use Rattle.std.proofs.Common.{rules}
use Rattle.elf_file.specs.Proof.LoopWays.{symbols-start, symbols-on, symbols-end}
use Rattle.elf_file.proofs.reading.symbols.Goals as goal

pub loop-j-init : goal.loop-j-init
loop-j-init c = search (rules, symbols-start)

pub loop-j-preserved : goal.loop-j-preserved
loop-j-preserved c = search (rules, symbols-on)

pub returns : goal.returns
returns c = search symbols-end
