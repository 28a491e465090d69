use Rattle.name_index.specs.Proof.Ways.{insert-done}
use Rattle.name_index.proofs.index.IndexMut.insert.Goals as goal

pub returns-clause-inserted : goal.returns-clause-inserted
returns-clause-inserted c = insert-done _ _ _ _ _ c.requires.place c.requires.room c.copy_within.ensures.after
