use Rattle.std.proofs.Common.{◌≡◌, ◌-◌}
use Rattle.section_groups.specs.Group.{object_in, same_loans, step_before, groups_from, groups_of}
use Rattle.section_groups.proofs.Grouping.add_groups.Given as goal

abbrev pub invariant-loop-n : goal.invariant-loop-n
invariant-loop-n l = record {
  loans : same_loans l.initial.self l.self;
  reached : groups_of (object_in l.object) (step_before l.initial.self) ≡ groups_from (object_in l.object) (l.n-end - l.n) l.n (step_before l.self);
}
