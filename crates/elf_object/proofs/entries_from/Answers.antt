use Rattle.elf_object.specs.Proof.Ways.{entries-past, entries-all, entries-in, rows-length}
use Rattle.elf_object.proofs.entries_from.Goals as goal

pub returns-then-rows-first : goal.returns-then-rows-first
returns-then-rows-first c = search entries-past

pub returns-then-tail-count : goal.returns-then-tail-count
returns-then-tail-count c = search entries-all

pub slice_bounds-result-end-2 : goal.slice_bounds-result-end-2
slice_bounds-result-end-2 c = search rows-length

pub returns : goal.returns
returns c = search entries-in
