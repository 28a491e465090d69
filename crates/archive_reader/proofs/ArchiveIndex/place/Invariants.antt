use Rattle.std.proofs.Common.{◌≡◌}
use Rattle.archive_index.specs.Index.{place_of}
use Rattle.archive_reader.proofs.ArchiveIndex.place.Given as goal

abbrev pub invariant-loop-passed : goal.invariant-loop-passed
invariant-loop-passed l = l.at ≡ place_of l.self.bytes.now l.self.entries l._passed
