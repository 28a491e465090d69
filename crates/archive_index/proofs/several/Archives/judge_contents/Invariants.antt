use Rattle.std.proofs.Common.{◌≡◌, ◌-◌, ◌*◌, ◌≤◌, length}
use Rattle.archive_index.specs.Archives.{archives_in}
use Rattle.archive_index.specs.Open.{judge_from}
use Rattle.archive_index.proofs.several.Archives.judge_contents.Given as goal

abbrev pub invariant-loop-j : goal.invariant-loop-j
invariant-loop-j l = record {
  rest : judge_from (archives_in l.self) (length l.self.ends.now) 0 0 ≡ judge_from (archives_in l.self) (length l.self.ends.now - l.j) l.j l.base;
  bound : l.base ≤ l.j * 0x100000000;
}
