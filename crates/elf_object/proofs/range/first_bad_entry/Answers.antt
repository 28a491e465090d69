use Rattle.elf_object.specs.Proof.Ways.{first-start, first_on, found_at, found_none}
use Rattle.elf_object.specs.Judge.{bad_entry}
use Rattle.elf_object.proofs.range.first_bad_entry.Goals as goal

pub loop-i-init : goal.loop-i-init
unfolding bad_entry
loop-i-init c = first-start _ _

pub loop-i-preserved : goal.loop-i-preserved
loop-i-preserved c = search first_on

pub returns-then-not-entry_ok : goal.returns-then-not-entry_ok
returns-then-not-entry_ok c = search found_at

pub returns : goal.returns
returns c = search found_none
