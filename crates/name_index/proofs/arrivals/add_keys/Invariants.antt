use Rattle.std.proofs.Common.{◌≡◌, take, map}
use Rattle.name_index.specs.declared.arrivals.Keyed.{Keyed}
use Rattle.name_index.proofs.arrivals.add_keys.Given as goal

abbrev pub invariant-loop-k : goal.invariant-loop-k
invariant-loop-k l = take l.k (map (λ (k : Keyed). k.id) l.keyed) ≡ take l.k l.ids
