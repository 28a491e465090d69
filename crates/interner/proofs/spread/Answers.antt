use Rattle.std.proofs.Common.{◌∙◌}
use Rattle.link.specs.Proof.Ways.{min-lesser}
use Rattle.interner.specs.Proof.Ways.{spread-fits, spread-is, spread-most}
use Rattle.interner.proofs.spread.Goals as goal

pub overflow_mul-result : goal.overflow_mul-result
overflow_mul-result c = search (spread-fits, c.min.ensures ∙ min-lesser _ _)

pub returns : goal.returns
returns c =
    let is = c.min.ensures ∙ min-lesser _ _ in
    record { value = search (spread-is, is); below = search (spread-most, is) }
