use Rattle.std.proofs.Common.{◌≡◌}
use Rattle.shared_objects.specs.Lent.{same_loans, same_rows}
use Rattle.shared_objects.specs.Record.{recorded_before}
use Rattle.shared_objects.specs.Proof.ListsWays.{Listed}
use Rattle.shared_objects.proofs.Loading.record_dependencies.Given as goal

abbrev pub invariant-loop-j : goal.invariant-loop-j
invariant-loop-j l = record {
  loans : same_loans l.initial.self l.self;
  rows : same_rows l.initial.self l.self;
  inputs : l.self.inputs.now ≡ l.initial.self.inputs.now;
  listed : Listed l.j l.library.file.now l.library.needs.now l.j-end (recorded_before l.initial.self) (recorded_before l.self);
}
