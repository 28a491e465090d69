use Rattle.std.proofs.Common.{◌≡◌, ◌-◌, ℕ}
use Rattle.interner.specs.Names.{chase, seek_of}
use Rattle.interner.proofs.seek.Given as goal

abbrev pub invariant-loop : goal.invariant-loop
invariant-loop l = (count : ℕ) → seek_of l.bytes l.names count l.head l.x ≡ chase l.bytes l.names count l.x l.at (l.rows - l.counter)
