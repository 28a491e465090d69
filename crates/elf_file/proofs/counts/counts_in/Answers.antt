use Rattle.elf_file.specs.Proof.CountWays.{counts-made}
use Rattle.elf_file.proofs.counts.counts_in.Goals as goal

pub returns : goal.returns
returns c = search counts-made
