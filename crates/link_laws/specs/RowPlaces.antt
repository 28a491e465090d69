-- The first bad row of what a call is lent, the place of 1: of an object; of a group, or that its section is none; of a library: symbols, soname, dependencies.
-- Assumes nothing.
use Rattle.std.specs.Prelude.{ℕ, ◌<◌, ◌≡◌, true, false, length}
use Rattle.link.specs.declared.Lent.{Lent}
use Rattle.link.specs.Counts.{lent_of}
use Rattle.elf_object.specs.Rows.{rows_in, is_loaded}
use Rattle.elf_object.specs.Judge.{entry_ok}
use Rattle.elf_object.specs.Judge as Elf
use Rattle.section_groups.specs.Group as Group
use Rattle.merge_stages.specs.Stages as Stages
use Rattle.shared_objects.specs.Head.{dependencies_ok, soname_missing}
use Rattle.shared_objects.specs.Load as Shared
use Rattle.merge_laws.specs.Calls.{Linked}
use Rattle.link_laws.specs.FirstRow.{First, BadRow}

module _ (o : Stages.Object) where
  abbrev pub BadObject : ℕ → Type 0
  BadObject = BadRow o.headers o.entries (length o.contents) (length o.image)

module _ (o : Group.Object) (n : ℕ) where
  pub data BadGroup (p : ℕ) : Type 0 where
    row : BadRow o.headers o.entries (length o.contents) (length o.image) p → BadGroup p
    no-group : (Elf.judge_of o.headers o.entries (length o.contents) (length o.image)).number ≡ 0 → is_loaded o.headers n 7 ≡ false → p ≡ n → BadGroup p

-- what a load is lent of the link
abbrev pub library_lent : Linked → Lent
library_lent s =
    lent_of (length s.table.names) (length s.table.bytes) (length s.table.symbols) (length s.table.sections) (length s.inputs) (length s.lists)

module _ (o : Shared.Input) where
  pub data BadLibrary (p : ℕ) : Type 0 where
    symbol : First (entry_ok o.entries) (rows_in o.entries) p → BadLibrary p
    soname : ((i : ℕ) → i < rows_in o.entries → entry_ok o.entries i ≡ true) → soname_missing o.image o.sonamed o.soname ≡ true → p ≡ 0 → BadLibrary p
    dependency : ((i : ℕ) → i < rows_in o.entries → entry_ok o.entries i ≡ true) → soname_missing o.image o.sonamed o.soname ≡ false
        → First (dependencies_ok o.image o.needs) (length o.needs) p → BadLibrary p
