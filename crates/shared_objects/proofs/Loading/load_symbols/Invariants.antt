use Rattle.std.proofs.Common.{◌≡◌}
use Rattle.shared_objects.specs.Lent.{same_loans}
use Rattle.shared_objects.specs.SymbolsLoad.{state_before}
use Rattle.shared_objects.specs.Proof.SymbolsLoadWays.{Reached}
use Rattle.shared_objects.proofs.Loading.load_symbols.Given as goal

abbrev pub invariant-loop-i : goal.invariant-loop-i
invariant-loop-i l = record {
  loans : same_loans l.initial.self l.self;
  inputs : l.self.inputs.now ≡ l.initial.self.inputs.now;
  reached : Reached l.i l.library.entries.now l.library.file.now l.i-end (state_before l.initial.self) (state_before l.self);
}
