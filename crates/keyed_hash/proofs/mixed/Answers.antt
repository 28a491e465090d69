use Rattle.keyed_hash.specs.Proof.Ways.{product-fits, mixed-is, mixed-small}
use Rattle.keyed_hash.proofs.mixed.Goals as goal

pub overflow_mul-h : goal.overflow_mul-h
overflow_mul-h c = search product-fits

pub returns : goal.returns
returns c = record { value = search mixed-is; small = search mixed-small }
