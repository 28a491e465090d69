use Rattle.std.proofs.Common.{◌≡◌, ◌-◌, length}
use Rattle.replay_words.specs.Spelled.{put_from}
use Rattle.replay_words.proofs.put_bytes.Given as goal

abbrev pub invariant-loop-k : goal.invariant-loop-k
invariant-loop-k l = (put_from l.count l.initial.to l.at l.word 0 ≡ put_from (l.count - l.k) l.to l.at l.word l.k) × (length l.to ≡ length l.initial.to)
