use Rattle.std.proofs.Common.{rules}
use Rattle.keyed_hash.specs.Proof.Ways.{start_small, half-small, rest_all, rest-word, hash-end}
use Rattle.keyed_hash.proofs.hash.Goals as goal

pub loop-k-init : goal.loop-k-init
loop-k-init c = search (rules, start_small, rest_all)

pub loop-k-preserved : goal.loop-k-preserved
loop-k-preserved c = (search rules, search rest-word)

pub returns : goal.returns
returns c = record { value = search hash-end; small = search half-small }
