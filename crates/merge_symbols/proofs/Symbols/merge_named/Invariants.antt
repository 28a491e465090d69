use Rattle.merge_symbols.specs.Stage.{object_in, same_loans, state_before}
use Rattle.merge_symbols.specs.Proof.Ways.{Reached}
use Rattle.merge_symbols.proofs.Symbols.merge_named.Given as goal

abbrev pub invariant-loop-i : goal.invariant-loop-i
invariant-loop-i l = record {
  loans : same_loans l.initial.self l.self;
  reached : Reached l.i (object_in l.object l.work l.strings) l.i-end (state_before l.initial.self) (state_before l.self);
}
