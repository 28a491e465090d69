use Rattle.std.proofs.Common.{◌≡◌, ◌-◌}
use Rattle.replay_archive.specs.Offer.{required_count, count_from}
use Rattle.replay_archive.proofs.required.Entries.required.Given as goal

abbrev pub invariant-loop : goal.invariant-loop
invariant-loop l =
    required_count l.self.index.now l.self.rows.now l.self.count l.r
    ≡ count_from l.self.index.now l.self.rows.now l.self.count l.r (l.self.count - l.counter) l.last l.n
