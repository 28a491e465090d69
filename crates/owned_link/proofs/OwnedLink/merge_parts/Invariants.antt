use Rattle.std.specs.Prelude.{Ok}
use Rattle.owned_link.specs.Owned.{MergesAll}
use Rattle.owned_link.proofs.OwnedLink.merge_parts.Given as goal

abbrev pub invariant-loop-k : goal.invariant-loop-k
invariant-loop-k l = MergesAll l.file l.places l.initial.self l.k l.self (Ok tt)
