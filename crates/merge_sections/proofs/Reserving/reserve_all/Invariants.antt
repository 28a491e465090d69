use Rattle.std.proofs.Common.{◌≡◌, ◌-◌}
use Rattle.merge_sections.specs.Reserve.{same_loans, TableWithin, state_before, reserve_from, reserve_all_of}
use Rattle.merge_sections.proofs.Reserving.reserve_all.Given as goal

abbrev pub invariant-loop-n : goal.invariant-loop-n
invariant-loop-n l = record {
  loans : same_loans l.initial.self l.self;
  within : TableWithin l.object.headers.now l.initial.self → TableWithin l.object.headers.now l.self;
  reached : reserve_all_of l.object.headers.now (state_before l.initial.self) ≡ reserve_from l.object.headers.now (l.n-end - l.n) l.n (state_before l.self);
}
