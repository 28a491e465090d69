-- The name of an object's symbol, and what is planned for it.
-- Assumes nothing.
use Rattle.std.specs.Prelude.{ℕ, Bool}
use Rattle.strings.specs.Lookup.{Looked}
use Rattle.elf_object.specs.Rows.{field, name_in}
use Rattle.section_groups.specs.Filter.{dropped_at}
use Rattle.merge_symbols.specs.Plan.{Planned}
use Rattle.merge_symbols.specs.Plan.{input_of, planned_of}
use Rattle.merge_symbols.specs.Stage as Symbols
use Rattle.merge_symbols.specs.Stage.{Object, view}

-- symbol i is dropped: local, of a removed section, in the gABI profile
abbrev pub is_dropped : Object → Symbols.State → ℕ → Bool
is_dropped o s i = dropped_at s.stage.link.gabi o.work o.entries i

-- the name of symbol i, and what is planned for it
abbrev pub name_of : Object → ℕ → Looked
name_of o i = name_in o.headers o.image o.symbol_names (field o.entries i 0)

abbrev pub plan_of : Object → Symbols.State → ℕ → Planned
plan_of o s i = planned_of (view s) (input_of o.entries o.work) (name_of o i).name i s.stage.file
