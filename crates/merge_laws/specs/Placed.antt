-- The row that was reserved for a section of an object.
-- Assumes nothing.
use Prim.Native.Nat.{ℕ}
use Rattle.std.specs.Prelude.{List}
use Rattle.elf_object.specs.Rows.{conversion_at}
use Rattle.merge_build.specs.Build.{section_id_of}

-- the row of section m
abbrev pub row_of : List ℕ → ℕ → ℕ
row_of work m = (section_id_of (conversion_at work m)).0
