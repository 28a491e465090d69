use Rattle.std.proofs.Common.{◌≡◌, ◌-◌, ◌≤◌}
use Rattle.gc_sections.specs.Each.{each}
use Rattle.gc_sections.specs.Sweep.{purge_symbol, purge_symbols}
use Rattle.gc_sections.specs.Tables.{Keeps, purged_in, rows_in}
use Rattle.gc_sections.proofs.Tables.purge_symbols.Given as goal

abbrev pub invariant-loop-i : goal.invariant-loop-i
invariant-loop-i l = record {
  few : l.count ≤ l.i;
  keeps : Keeps l.initial.self l.self;
  purged : purge_symbols l.link l.work (rows_in l.initial.self) ≡ each (purge_symbol l.link l.work) (l.link.symbols - l.i) l.i (purged_in l.self l.count);
}
