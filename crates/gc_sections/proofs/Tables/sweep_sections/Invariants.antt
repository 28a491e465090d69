use Rattle.std.proofs.Common.{◌≡◌, ◌-◌, ◌≤◌}
use Rattle.gc_sections.specs.Each.{each}
use Rattle.gc_sections.specs.Sweep.{drop_unreached, sweep_sections}
use Rattle.gc_sections.specs.Tables.{Keeps, swept_in}
use Rattle.gc_sections.proofs.Tables.sweep_sections.Given as goal

abbrev pub invariant-loop-i : goal.invariant-loop-i
invariant-loop-i l = record {
  few : l.count ≤ l.i;
  keeps : Keeps l.initial.self l.self;
  symbols : l.self.symbols.now ≡ l.initial.self.symbols.now;
  swept : sweep_sections l.initial.self.link.sections l.initial.self.sections.now l.initial.work ≡ each (drop_unreached l.initial.self.link.sections) (l.i-end - l.i) l.i (swept_in l.self l.work l.count);
}
