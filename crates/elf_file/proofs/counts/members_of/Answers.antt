use Rattle.std.proofs.Common.{rules}
use Rattle.elf_file.specs.Proof.CountWays.{listed-start, listed_rows-start, listed-fits, listed-on, listed_rows-on, listed-end, listed_rows-end, listed_few-end}
use Rattle.elf_file.proofs.counts.members_of.Goals as goal

pub loop-i-init : goal.loop-i-init
loop-i-init c = search (rules, listed-start, listed_rows-start)

pub overflow_add-listed : goal.overflow_add-listed
overflow_add-listed c = search listed-fits

pub loop-i-preserved : goal.loop-i-preserved
loop-i-preserved c = (search listed-on, search (rules, listed_rows-on))

pub returns-clause-count : goal.returns-clause-count
returns-clause-count c = search listed-end

pub returns-clause-rows : goal.returns-clause-rows
returns-clause-rows c = search listed_rows-end

pub returns-clause-few : goal.returns-clause-few
returns-clause-few c = search listed_few-end
