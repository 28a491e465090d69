use Rattle.std.proofs.Common.{◌∙◌}
use Rattle.archive_reader.specs.Proof.Ways.{place-first, place-next}
use Rattle.archive_reader.proofs.ArchiveIndex.place.Goals as goal

pub loop-passed-init : goal.loop-passed-init
loop-passed-init c = place-first _ _

pub loop-passed-preserved : goal.loop-passed-preserved
loop-passed-preserved c = c.unwrap_or-at.ensures ∙ place-next _ _ _ _ _ c.loop-passed.invariant c.after_name.ensures
