use Rattle.std.proofs.Common.{◌≡◌}
use Rattle.merge_build.specs.Build.{object_in, same_loans, state_before}
use Rattle.merge_build.specs.Proof.BuildWays.{Reached}
use Rattle.merge_build.proofs.Builder.build_sections.Given as goal

abbrev pub invariant-loop-n : goal.invariant-loop-n
invariant-loop-n l = record {
  loans : same_loans l.initial.self l.self;
  inputs : l.self.inputs.now ≡ l.initial.self.inputs.now;
  reached : Reached l.n (object_in l.source) l.kind l.n-end (state_before l.initial.self) (state_before l.self);
}
