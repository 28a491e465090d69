use Rattle.std.proofs.Common.{◌≡◌, ◌-◌, ◌*◌, ◌≤◌, length}
use Rattle.archive_index.specs.Archives.{archives_in}
use Rattle.archive_index.specs.Rows.{rows_from, rows_of}
use Rattle.archive_index.proofs.opening.enter_archives.Given as goal

abbrev pub invariant-loop-j : goal.invariant-loop-j
invariant-loop-j l = record {
  rest : rows_of (archives_in l.archives) l.initial.cells ≡ rows_from (archives_in l.archives) (length l.archives.ends.now - l.j) l.j l.base l.cells;
  bound : l.base ≤ l.j * 0x100000000;
}
