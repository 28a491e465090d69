-- What a call for the next member is lent, and a walk of which a pass has queued members.
-- Assumes nothing.
use Rattle.std.specs.Prelude.{ℕ}
use Rattle.archive_walk.specs.declared.Walk.{Walk}
use Rattle.archive_walk.specs.declared.table.Table
use Rattle.archive_walk.specs.Look.{Table, table_of}

-- what is read of the link, behind its references
abbrev pub as_table : Rattle.archive_walk.specs.declared.table.Table.Table → Table
as_table t = table_of t.link t.bytes.now t.names.now t.symbols.now

-- the same walk with so many members queued
abbrev pub with_queued : Walk → ℕ → Walk
with_queued w n =
    record { key = w.key; entries = w.entries; length = w.length; passes = w.passes; queued = n; offered = w.offered; done = w.done }
