use Rattle.std.proofs.Common.{◌≡◌, ◌-◌}
use Rattle.std.specs.Prelude.{None}
use Rattle.text.specs.Writing.{put_all, written}
use Rattle.replay_archive.specs.Offer.{names_from}
use Rattle.replay_archive.proofs.required.Entries.put_names.Given as goal

abbrev pub invariant-loop : goal.invariant-loop
invariant-loop l =
    (l.out.bytes.ghost_name ≡ l.initial.out.bytes.ghost_name)
    × (put_all (written l.initial.out) (names_from l.self.index.now l.self.rows.now l.self.count l.r l.count None)
    ≡ put_all (written l.out) (names_from l.self.index.now l.self.rows.now l.self.count l.r (l.count - l.counter) l.last))
