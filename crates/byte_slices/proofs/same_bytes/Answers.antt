use Rattle.std.proofs.Common.{sym, ◌∙◌}
use Rattle.byte_slices.specs.Proof.Ways.{same-pointwise}
use Rattle.byte_slices.specs.Proof.Words.{lengths-differ}
use Rattle.byte_slices.proofs.same_bytes.Goals as goal

pub returns-then-a-b : goal.returns-then-a-b
returns-then-a-b c = sym (lengths-differ _ _ c.if-a-b.true)

pub returns-else-contains : goal.returns-else-contains
returns-else-contains c = c.eq.ensures ∙ same-pointwise _ _
