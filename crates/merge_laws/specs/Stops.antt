-- The stages of a merge, in order, and what stands before each of their elements.
-- Assumes nothing.
use Rattle.std.specs.Prelude.{ℕ}
use Rattle.merge_sections.specs.Reserve as Reserve
use Rattle.section_groups.specs.Group as Group
use Rattle.merge_symbols.specs.Stage as Symbols
use Rattle.merge_build.specs.Build as Build
use Rattle.merge_build.specs.Finish.{BuildLinks, building, after_build}
use Rattle.merge_stages.specs.Stages.{All, Object, Tabled, SymbolLinks, build_object, symbol_object, after_symbols, with_built, symbols_in, put_symbols, group_object, after_groups, after_sections, noted, tabled, stages_of}
use Rattle.merge_laws.specs.MergeSteps.{build_first, symbol_first, group_first, reserve_first}

module _ (o : Object) (a : All) where
  abbrev pub reserved : Reserve.State
  reserved = Reserve.reserve_all_of o.headers (reserve_first a)

  abbrev pub object : Tabled
  object = tabled o reserved.reserved.table

  abbrev pub prepared : All
  prepared = noted o (after_sections a reserved)

  abbrev pub grouped : Group.Step
  grouped = Group.groups_of (group_object object) (group_first prepared)

  abbrev pub marked : All
  marked = after_groups prepared grouped

  abbrev pub symbol_reader : Symbols.Object
  symbol_reader = symbol_object object marked.work

  abbrev pub added : Symbols.State
  added = Symbols.symbols_of symbol_reader (symbol_first (symbols_in marked))

  abbrev pub with_added : Symbols.State → SymbolLinks
  with_added t = after_symbols (symbols_in marked) t

  abbrev pub builder : Build.Object
  builder = build_object object marked.work (with_added added).ids

  abbrev pub before2 : BuildLinks
  before2 = build_first (with_added added)

  abbrev pub before1 : BuildLinks
  before1 = after_build before2 (Build.build_of builder (building before2) 2)

  abbrev pub before0 : BuildLinks
  before0 = after_build before1 (Build.build_of builder (building before1) 1)

  abbrev pub with_build : BuildLinks → All
  with_build b = put_symbols marked (with_built (with_added added) b)

  abbrev pub end : All
  end = stages_of o a

  abbrev pub number : ℕ
  number = end.stage.number

  abbrev pub sections_to : ℕ → Reserve.State
  sections_to n = Reserve.reserve_from o.headers n 0 (reserve_first a)

  abbrev pub groups_to : ℕ → Group.Step
  groups_to n = Group.groups_from (group_object object) n 0 (group_first prepared)

  abbrev pub symbols_to : ℕ → Symbols.State
  symbols_to n = Symbols.symbols_from symbol_reader n 0 (symbol_first (symbols_in marked))

  abbrev pub uninitialized_to : ℕ → Build.State
  uninitialized_to n = Build.build_from builder 2 n 0 (building before2)

  abbrev pub program_to : ℕ → Build.State
  program_to n = Build.build_from builder 1 n 0 (building before1)
