use Rattle.untaken_member.specs.Untaken.{loaded_of}
use Rattle.untaken_member.specs.Proof.Ways.{loaded-some, loaded-none}
use Rattle.untaken_member.proofs.loaded.Goals as goal

pub returns-in-Some : goal.returns-in-Some
unfolding loaded_of
returns-in-Some c = loaded-some _ _ _ _ _ _ _ c.in-Some.is c.loaded_table.ensures c.entries_of.ensures

pub returns-in-None : goal.returns-in-None
unfolding loaded_of
returns-in-None c = loaded-none _ _ _ _ _ c.in-None.is c.loaded_table.ensures
