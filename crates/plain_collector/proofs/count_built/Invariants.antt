use Rattle.std.proofs.Common.{◌≡◌, ◌-◌, ◌≤◌}
use Rattle.gc_sections.specs.Each.{each}
use Rattle.plain_collector.specs.Run.{count_one, count_built}
use Rattle.plain_collector.proofs.count_built.Given as goal

abbrev pub invariant-loop-i : goal.invariant-loop-i
invariant-loop-i l = record {
  few : l.count ≤ l.i;
  counted : count_built l.sections l.n ≡ each (count_one l.sections l.n) (l.n - l.i) l.i l.count;
}
