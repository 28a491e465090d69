-- Document 01, "Objects": "Order: sections (3, 24), groups, symbol filter, symbols (9, then add), uninitialized, program sections (18, then 19)".
-- Assumes nothing.
use Rattle.std.specs.Prelude.{ℕ, ◌≡◌, cond, List, eqb, ltb, Option, Result, Ok, Err}
use denote.Triple.Both.{Both}
use Rattle.link.specs.declared.cause.Refusal.{Refusal}
use Rattle.link.specs.Stage.{Stage}
use Rattle.link.specs.Judge as Link
use Rattle.elf_object.specs.declared.Object as Elf
use Rattle.elf_object.specs.Rows.{rows_in, link_at, section_of, table_entries}
use Rattle.merge_sections.specs.Reserve as Reserve
use Rattle.merge_sections.specs.Notes.{note_tables_of, clear_all_of}
use Rattle.section_groups.specs.Group as Group
use Rattle.section_groups.specs.Filter.{filter_of}
use Rattle.merge_symbols.specs.Stage as Symbols
use Rattle.merge_build.specs.Build as Build
use Rattle.merge_build.specs.Finish.{BuildLinks, build_links, built_of}
use Rattle.link.specs.declared.Link.{Link}
use Rattle.merge_stages.specs.declared.Merge.{Merge}
use Rattle.cells.specs.Slice.{Slice, SliceMut}

-- every lent cell that a merge may write, and the stage
pub record All : Type 0 where
  pub bytes : List ℕ
  pub names : List ℕ
  pub symbols : List ℕ
  pub sections : List ℕ
  pub inputs : List ℕ
  pub lists : List ℕ
  pub work : List ℕ
  pub ids : List ℕ
  pub stage : Stage

abbrev pub all_of : List ℕ → List ℕ → List ℕ → List ℕ → List ℕ → List ℕ → List ℕ → List ℕ → Stage → All
all_of b n s x i l w d st =
    record { bytes = b; names = n; symbols = s; sections = x; inputs = i; lists = l; work = w; ids = d; stage = st }

-- the cells that a merge may write
pub record Cells : Type 0 where
  pub bytes : List ℕ
  pub names : List ℕ
  pub symbols : List ℕ
  pub sections : List ℕ
  pub inputs : List ℕ
  pub lists : List ℕ
  pub work : List ℕ
  pub ids : List ℕ

abbrev pub cells_of : List ℕ → List ℕ → List ℕ → List ℕ → List ℕ → List ℕ → List ℕ → List ℕ → Cells
cells_of b n s x i l w d = record { bytes = b; names = n; symbols = s; sections = x; inputs = i; lists = l; work = w; ids = d }

-- before the call and after it
abbrev pub cells_in : SliceMut → SliceMut → SliceMut → SliceMut → SliceMut → SliceMut → SliceMut → SliceMut → Both Cells Cells
cells_in b n s x i l w d =
    record {
      entry = cells_of b.entry.now n.entry.now s.entry.now x.entry.now i.entry.now l.entry.now w.entry.now d.entry.now;
      exit = cells_of b.exit.now n.exit.now s.exit.now x.exit.now i.exit.now l.exit.now w.exit.now d.exit.now;
    }

-- with the cells before the call
abbrev pub link_before : Both Cells Cells → Link → All
link_before c l =
    all_of c.entry.bytes c.entry.names c.entry.symbols c.entry.sections c.entry.inputs c.entry.lists c.entry.work c.entry.ids (Link.going_of l)

-- the same cells are lent
abbrev pub same_loans : Merge → Merge → Type 0
same_loans m t =
    (t.bytes.ghost_name ≡ m.bytes.ghost_name) × (t.names.ghost_name ≡ m.names.ghost_name) × (t.symbols.ghost_name ≡ m.symbols.ghost_name)
    × (t.sections.ghost_name ≡ m.sections.ghost_name) × (t.inputs.ghost_name ≡ m.inputs.ghost_name) × (t.lists.ghost_name ≡ m.lists.ghost_name)
    × (t.work.ghost_name ≡ m.work.ghost_name) × (t.ids.ghost_name ≡ m.ids.ghost_name)

-- what is lent with a stage: before a call, and after it with its answer
abbrev pub merging : Merge → Stage → All
merging m s = all_of m.bytes.now m.names.now m.symbols.now m.sections.now m.inputs.now m.lists.now m.work.now m.ids.now s

abbrev pub merge_before : Merge → All
merge_before m = merging m (Link.going_of m.link)

abbrev pub merge_after : Merge → Result Unit Refusal → All
merge_after m r = merging m (Link.stage_as m.link r)

-- the object: headers, entries of all symbol tables, lists, bytes, and the section of section names
pub record Object : Type 0 where
  pub headers : List ℕ
  pub entries : List ℕ
  pub contents : List ℕ
  pub image : List ℕ
  pub section_names : ℕ

abbrev pub object_of : List ℕ → List ℕ → List ℕ → List ℕ → ℕ → Object
object_of h e c f s = record { headers = h; entries = e; contents = c; image = f; section_names = s }

-- as it is lent
abbrev pub object_in : Slice → Slice → Slice → Slice → ℕ → Object
object_in h e c f s = object_of h.entry.now e.entry.now c.entry.now f.entry.now s

abbrev pub object_read : Elf.Object → Object
object_read o = object_of o.headers.now o.entries.now o.contents.now o.image.now o.section_names

-- ---- the symbols, and then what is built

pub record SymbolLinks : Type 0 where
  pub bytes : List ℕ
  pub names : List ℕ
  pub symbols : List ℕ
  pub sections : List ℕ
  pub inputs : List ℕ
  pub lists : List ℕ
  pub ids : List ℕ
  pub stage : Stage

abbrev pub symbol_links : List ℕ → List ℕ → List ℕ → List ℕ → List ℕ → List ℕ → List ℕ → Stage → SymbolLinks
symbol_links b n s x i l d st = record { bytes = b; names = n; symbols = s; sections = x; inputs = i; lists = l; ids = d; stage = st }

-- what is lent with a stage: before a call, and after it with its answer
abbrev pub linking : Merge → Stage → SymbolLinks
linking m s = symbol_links m.bytes.now m.names.now m.symbols.now m.sections.now m.inputs.now m.lists.now m.ids.now s

abbrev pub links_before : Merge → SymbolLinks
links_before m = linking m (Link.going_of m.link)

abbrev pub links_after : Merge → Result Unit Refusal → SymbolLinks
links_after m r = linking m (Link.stage_as m.link r)

-- the object with the loaded symbol table's own entries and its section; without one there are no entries, and the section is 0
pub record Tabled : Type 0 where
  pub headers : List ℕ
  pub entries : List ℕ
  pub contents : List ℕ
  pub image : List ℕ
  pub section_names : ℕ
  pub table : ℕ

abbrev pub table_of : List ℕ → List ℕ → List ℕ → List ℕ → ℕ → ℕ → Tabled
table_of h e c f s t = record { headers = h; entries = e; contents = c; image = f; section_names = s; table = t }

-- as it is lent
abbrev pub tabled_read : Elf.Object → Tabled
tabled_read o = table_of o.headers.now o.entries.now o.contents.now o.image.now o.section_names o.table

abbrev pub symbol_object : Tabled → List ℕ → Symbols.Object
symbol_object o work = Symbols.object_of o.headers o.entries o.image work (link_at o.headers o.table)

abbrev pub build_object : Tabled → List ℕ → List ℕ → Build.Object
build_object o work ids =
    Build.object_of o.headers o.contents o.image work ids o.section_names o.table (rows_in o.entries)

abbrev pub after_symbols : SymbolLinks → Symbols.State → SymbolLinks
after_symbols s m =
    symbol_links m.bytes m.names m.symbols m.sections s.inputs s.lists m.ids
    (Link.stopped_of m.stage.link m.stage.number m.stage.place)

abbrev pub with_built : SymbolLinks → BuildLinks → SymbolLinks
with_built s b = symbol_links b.bytes b.names s.symbols b.sections b.inputs b.lists s.ids b.stage

-- what is built, and the object's own row
abbrev pub built_in : Tabled → List ℕ → SymbolLinks → SymbolLinks
built_in o work s =
    with_built s
    (built_of (build_object o work s.ids) (build_links s.bytes s.names s.sections s.inputs s.lists (Link.going_of s.stage.link)))

unfoldable pub build_stage : Tabled → List ℕ → SymbolLinks → SymbolLinks
build_stage o work s = cond (eqb s.stage.number 0) (built_in o work s) s

-- the symbol stage
abbrev pub symbol_stage : Tabled → List ℕ → SymbolLinks → Symbols.State
symbol_stage o work s =
    Symbols.symbols_of (symbol_object o work) (Symbols.state_of s.bytes s.names s.symbols s.sections s.ids (Symbols.stage_of s.stage.link 0 0 0))

unfoldable pub merge_table_of : Tabled → List ℕ → SymbolLinks → SymbolLinks
merge_table_of o work s =
    build_stage o work
    (after_symbols s
    (symbol_stage o work s))

-- ---- the groups, the filter, and then the symbols

abbrev pub after_groups : All → Group.Step → All
after_groups a g = all_of g.bytes g.names a.symbols a.sections a.inputs a.lists g.work a.ids g.stage

abbrev pub stop : All → ℕ → ℕ → All
stop a number place =
    all_of a.bytes a.names a.symbols a.sections a.inputs a.lists a.work a.ids
    (Link.stopped_of a.stage.link number place)

abbrev pub put_symbols : All → SymbolLinks → All
put_symbols a s =
    all_of s.bytes s.names s.symbols s.sections s.inputs s.lists a.work s.ids s.stage

abbrev pub symbols_in : All → SymbolLinks
symbols_in a =
    symbol_links a.bytes a.names a.symbols a.sections a.inputs a.lists a.ids (Link.going_of a.stage.link)

-- "local in a removed section" 8, at the first such symbol
unfoldable pub filtered_of : Tabled → All → ℕ → All
filtered_of o a i =
    cond (ltb i (rows_in o.entries)) (stop a 8 i) (put_symbols a (merge_table_of o a.work (symbols_in a)))

unfoldable pub filter_stage : Tabled → All → All
filter_stage o a = cond (eqb a.stage.number 0) (filtered_of o a (filter_of a.stage.link.gabi a.work o.entries)) a

abbrev pub group_object : Tabled → Group.Object
group_object o = Group.object_of o.headers o.entries o.contents o.image o.table

-- with the groups of the object
abbrev pub grouped_in : Tabled → All → All
grouped_in o a = after_groups a (Group.groups_of (group_object o) (Group.step_of a.bytes a.names a.work (Link.going_of a.stage.link)))

unfoldable pub merge_groups_of : Tabled → All → All
merge_groups_of o a = filter_stage o (grouped_in o a)

-- ---- all stages

abbrev pub after_sections : All → Reserve.State → All
after_sections a r =
    all_of a.bytes a.names a.symbols r.sections a.inputs a.lists r.work a.ids
    (Link.stopped_of r.reserved.link r.reserved.number r.reserved.place)

abbrev pub noted : Object → All → All
noted o a =
    all_of a.bytes a.names a.symbols a.sections a.inputs a.lists
    (clear_all_of (rows_in o.headers) o.entries (note_tables_of o.headers a.work)) a.ids (Link.going_of a.stage.link)

abbrev pub tabled : Object → ℕ → Tabled
tabled o table = table_of o.headers (table_entries o.headers o.entries table) o.contents o.image o.section_names (section_of table)

unfoldable pub group_stage : Object → ℕ → All → All
group_stage o table a = cond (eqb a.stage.number 0) (merge_groups_of (tabled o table) (noted o a)) a

unfoldable pub reserved_stages : Object → All → Reserve.State → All
reserved_stages o a r = group_stage o r.reserved.table (after_sections a r)

-- the section stage
abbrev pub section_stage : Object → All → Reserve.State
section_stage o a = Reserve.reserve_all_of o.headers (Reserve.state_of a.sections a.work (Reserve.reserved_of a.stage.link 0 0 0))

-- its answer without the loaded symbol table
abbrev pub answered : Result (Option ℕ) Refusal → Result Unit Refusal
answered (Ok t) = Ok tt
answered (Err r) = Err r

unfoldable pub stages_of : Object → All → All
stages_of o a = reserved_stages o a (section_stage o a)
