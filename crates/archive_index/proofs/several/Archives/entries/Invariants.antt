use Rattle.std.proofs.Common.{◌≡◌, ◌-◌, ◌+◌, ◌*◌, ◌≤◌, length}
use Rattle.archive_index.specs.Archives.{archives_in, entries_from, entries_in}
use Rattle.archive_index.proofs.several.Archives.entries.Given as goal

abbrev pub invariant-loop-j : goal.invariant-loop-j
invariant-loop-j l = record {
  sum : entries_in (archives_in l.self) ≡ l.entries + entries_from (archives_in l.self) (length l.self.ends.now - l.j) l.j;
  bound : l.entries ≤ l.j * 0x100000000;
}
