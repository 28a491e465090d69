use Rattle.keyed_hash.specs.Proof.Ways.{word_small, last_word, last_none}
use Rattle.keyed_hash.proofs.last_mixed.Goals as goal

pub mixed-requires-clause-w_bound : goal.mixed-requires-clause-w_bound
mixed-requires-clause-w_bound c = search word_small

pub returns-then-i-x : goal.returns-then-i-x
returns-then-i-x c = search last_word

pub returns-else-i-x : goal.returns-else-i-x
returns-else-i-x c = search last_none
