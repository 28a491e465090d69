use Rattle.std.proofs.Common.{◌≡◌, ◌-◌}
use Rattle.replay_archive.specs.Offer.{nearest_from, next_required}
use Rattle.replay_archive.proofs.required.Entries.next_required.Given as goal

abbrev pub invariant-loop-k : goal.invariant-loop-k
invariant-loop-k l =
    next_required l.self.index.now l.self.rows.now l.self.count l.r l.last
    ≡ nearest_from l.self.index.now l.self.rows.now l.r l.last (l.self.count - l.k) l.k l.best
