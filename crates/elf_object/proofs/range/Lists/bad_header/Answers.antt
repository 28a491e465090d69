use Rattle.elf_object.specs.Proof.Ways.{first-start, first_on, found_at, found_none}
use Rattle.elf_object.specs.Judge.{bad_header}
use Rattle.elf_object.proofs.range.Lists.bad_header.Goals as goal

pub loop-n-init : goal.loop-n-init
unfolding bad_header
loop-n-init c = first-start _ _

pub loop-n-preserved : goal.loop-n-preserved
loop-n-preserved c = search first_on

pub returns-then-not-header_ok : goal.returns-then-not-header_ok
returns-then-not-header_ok c = search found_at

pub returns : goal.returns
returns c = search found_none
