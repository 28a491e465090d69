use Rattle.std.proofs.Common.{◌<◌, arith}
use Rattle.elf_object.specs.Rows.{rows_in}
use Rattle.merge_stages.specs.Proof.Ways.{loaded-some, loaded-none}
use Rattle.merge_stages.proofs.loaded.Goals as goal

pub returns-in-Some : goal.returns-in-Some
returns-in-Some c =
    let h : c.in-Some.t < rows_in c.args.object.headers.now = c.requires c.in-Some.t c.in-Some.is in
    rw c.in-Some.is (loaded-some _ _ _ (omega arith) c.entries_of.ensures)

pub returns-in-None : goal.returns-in-None
returns-in-None c = rw c.in-None.is (loaded-none _)
