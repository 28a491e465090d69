use Rattle.merge_sections.specs.Notes.{clear_all_of}
use Rattle.merge_sections.specs.Proof.Ways.{each_start, each-end, each_on}
use Rattle.merge_sections.proofs.clear_absent.Goals as goal

pub loop-i-init : goal.loop-i-init
unfolding clear_all_of
loop-i-init c = each_start _ _ _

pub loop-i-preserved : goal.loop-i-preserved
loop-i-preserved c = search each_on

pub returns : goal.returns
returns c = search each-end
