use Rattle.sections.specs.Proof.Ways.{reserve-fits}
use Rattle.sections.proofs.reserve.Goals as goal

pub overflow_add-id : goal.overflow_add-id
overflow_add-id c = search reserve-fits
