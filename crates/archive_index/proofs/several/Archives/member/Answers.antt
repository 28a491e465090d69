use Rattle.archive_index.specs.Proof.Ways.{member-on, member-end}
use Rattle.archive_index.proofs.several.Archives.member.Goals as goal

pub loop-j-preserved : goal.loop-j-preserved
loop-j-preserved c = search (member-on, c.count-entries.ensures.value)

pub returns : goal.returns
returns c = search member-end
