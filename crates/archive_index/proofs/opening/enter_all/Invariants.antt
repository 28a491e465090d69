use Rattle.std.proofs.Common.{◌≡◌, ◌-◌, ◌+◌, ◌<◌}
use Rattle.archive_index.specs.Index.{count_of, names_at}
use Rattle.archive_index.specs.Rows.{enter_all}
use Rattle.archive_index.proofs.opening.enter_all.Given as goal

abbrev pub invariant-loop-i : goal.invariant-loop-i
invariant-loop-i l = record {
  rest : enter_all l.archive l.index l.start (count_of l.index) l.base 0 (names_at (count_of l.index)) l.initial.cells
      ≡ enter_all l.archive l.index l.start (l.entries - l.i) (l.base + l.i) l.i l.at l.cells;
  low : l.at < 0x8000000000000000;
}
