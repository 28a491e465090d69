use Rattle.std.proofs.Common.{◌≡◌, ◌+◌, ◌-◌, ◌≤◌}
use Rattle.archive_index.specs.Contract.{same_rows}
use Rattle.archive_walk.specs.Lent.{as_table, with_queued}
use Rattle.archive_walk.specs.Walk.{queue_of, tie_all}
use Rattle.archive_walk.specs.Notes.{Noted}
use Rattle.archive_walk.proofs.Walk.tie_all.Given as goal

abbrev pub invariant-loop-k : goal.invariant-loop-k
invariant-loop-k l = record {
  same : same_rows l.initial.rows l.rows;
  rest : l.self ≡ with_queued l.initial.self l.self.queued;
  room : l.self.queued ≤ l.initial.self.queued + l.k;
  queue : tie_all l.initial.self.key l.initial.self.entries l.initial.rows.archives.bytes.now (as_table l.table) l.initial.self.passes l.initial.self.entries 0
      (queue_of l.initial.rows.cells.now l.initial.self.queued)
      ≡ tie_all l.initial.self.key l.initial.self.entries l.initial.rows.archives.bytes.now (as_table l.table) l.initial.self.passes (l.initial.self.entries - l.k) l.k
      (queue_of l.rows.cells.now l.self.queued);
  noted : Noted l.initial.rows.archives.bytes.now l.rows.cells.now (as_table l.table) l.initial.self.entries l.notes.0;
}
