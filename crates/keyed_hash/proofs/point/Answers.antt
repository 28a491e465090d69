use Rattle.std.proofs.Common.{rules}
use Rattle.keyed_hash.specs.Ways.{point-base, point-own}
use Rattle.keyed_hash.specs.Proof.Ways.{point-small}
use Rattle.keyed_hash.proofs.point.Goals as goal

pub returns-then-r-eq0 : goal.returns-then-r-eq0
returns-then-r-eq0 c = record { value = search point-base; small = search rules }

pub returns-else-r-eq0 : goal.returns-else-r-eq0
returns-else-r-eq0 c = record { value = search point-own; small = search point-small }
