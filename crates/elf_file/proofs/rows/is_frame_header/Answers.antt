use Rattle.std.proofs.Common.{ap}
use Rattle.byte_slices.specs.Bytes.{same}
use Rattle.strings.specs.Lookup.{Looked}
use Rattle.elf_file.specs.Rows.{eh_frame_hdr}
use Rattle.elf_file.proofs.rows.is_frame_header.Goals as goal

pub returns-in-None : goal.returns-in-None
unfolding same
returns-in-None c = ap (λ (l : Looked). same l.name eh_frame_hdr) c.in-None.ensures.string_meets
