use Rattle.elf_object.specs.Proof.Ways.{first-start, first_on, found_at, found_none}
use Rattle.elf_file.specs.Check.{bad_table}
use Rattle.elf_file.proofs.checks.bad_table.Goals as goal

pub loop-i-init : goal.loop-i-init
unfolding bad_table
loop-i-init c = first-start _ _

pub loop-i-preserved : goal.loop-i-preserved
loop-i-preserved c = search first_on

pub returns-then-not-table_ok : goal.returns-then-not-table_ok
returns-then-not-table_ok c = search found_at

pub returns : goal.returns
returns c = search found_none
