use Rattle.std.proofs.Common.{◌≡◌}
use Rattle.name_index.specs.Index.{same_places}
use Rattle.name_index.specs.Proof.Moves.{Moved}
use Rattle.name_index.proofs.index.IndexMut.put_together.Given as goal

abbrev pub invariant-loop-left : goal.invariant-loop-left
invariant-loop-left l =
    same_places l.initial.self l.self × (l.self.count ≡ l.initial.self.count)
    × Moved l.initial.self.places.now l.initial.self.count l.ids l.found l.self.places.now l.high l.left

abbrev pub decreases-loop-left : goal.decreases-loop-left
decreases-loop-left l = l.left
