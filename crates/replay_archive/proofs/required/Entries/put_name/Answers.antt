use Rattle.text.specs.Proof.WritingWays.{puts_then}
use Rattle.replay_archive.proofs.required.Entries.put_name.Goals as goal

pub returns : goal.returns
returns c = rw (← c.name_of.ensures) (puts_then _ _ _ _ _ c.put.ensures c.put_shown.ensures)
