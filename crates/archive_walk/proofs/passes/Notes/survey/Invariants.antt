use Rattle.std.proofs.Common.{◌≡◌, ◌-◌}
use Rattle.archive_walk.specs.Lent.{as_table}
use Rattle.archive_walk.specs.Walk.{removed_of}
use Rattle.archive_walk.specs.Notes.{Noted}
use Rattle.archive_walk.proofs.passes.Notes.survey.Given as goal

abbrev pub invariant-loop-k : goal.invariant-loop-k
invariant-loop-k l = record {
  removed : removed_of l.entries.index.now l.entries.cells.now (as_table l.table) l.count 0
      ≡ removed_of l.entries.index.now l.entries.cells.now (as_table l.table) (l.count - l.k) l.k;
  noted : Noted l.entries.index.now l.entries.cells.now (as_table l.table) l.k l.self.0;
}
