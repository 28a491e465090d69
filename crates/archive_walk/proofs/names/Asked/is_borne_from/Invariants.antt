use Rattle.std.proofs.Common.{◌≡◌, ◌-◌, ◌/◌, length}
use Rattle.archive_walk.specs.Names.{along, bears_of, borne_from}
use Rattle.archive_walk.proofs.names.Asked.is_borne_from.Given as goal

abbrev pub invariant-loop-step : goal.invariant-loop-step
invariant-loop-step l =
    borne_from l.entries.index.now l.entries.cells.now l.self.member l.self.name.now l.head
    ≡ along l.entries.cells.now (bears_of l.entries.index.now l.entries.cells.now l.self.member l.self.name.now) l.at (length l.entries.cells.now / 8 - l._step)
