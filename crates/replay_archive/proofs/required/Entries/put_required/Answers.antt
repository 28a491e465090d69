use Rattle.text.specs.Proof.WritingWays.{puts_then}
use Rattle.replay_archive.specs.Offer.{required_text, listed_text}
use Rattle.replay_archive.proofs.required.Entries.put_required.Goals as goal

pub returns : goal.returns
unfolding required_text listed_text
returns c = rw (← c.required-count.ensures) (puts_then _ _ _ _ _ c.put_numbered.ensures c.put_names.ensures)
