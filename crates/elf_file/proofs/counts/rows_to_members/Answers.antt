use Rattle.std.proofs.Common.{rules}
use Rattle.elf_file.specs.Proof.CountWays.{members-start, members-on, members-end}
use Rattle.elf_file.proofs.counts.rows_to_members.Goals as goal

pub loop-j-init : goal.loop-j-init
loop-j-init c = search (rules, members-start)

pub loop-j-preserved : goal.loop-j-preserved
loop-j-preserved c = search (rules, members-on)

pub returns : goal.returns
returns c = search members-end
