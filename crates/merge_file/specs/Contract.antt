-- The contract of `merge_file`: its result and every cell that it was lent to write, the rows' too, against its definition.
-- Assumes nothing.
use Rattle.std.specs.Prelude.{ℕ, ◌≡◌, List}
use denote.Triple.Both.{Both}
use Rattle.link.specs.declared.Link.{Link}
use Rattle.merge_stages.specs.Stages.{Cells, link_before}
use Rattle.merge_elf.specs.declared.Outcome.{Outcome}
use Rattle.merge_elf.specs.Merge.{outcome_after}
use Rattle.merge_file.specs.MergeFile.{file_left, merge_file_of}

-- the file; the cells for its rows before the call and after it
abbrev pub MergeFileMeets : List ℕ → List ℕ → List ℕ → Both Cells Cells → Link → Outcome → Type 0
MergeFileMeets image rows after c k r = file_left after (outcome_after c r) ≡ merge_file_of image rows (link_before c k)
