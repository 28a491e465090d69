-- The steps that a merge is made of, stage by stage.
-- Assumes nothing.
use Rattle.std.specs.Prelude.{ℕ, Bool, true, false, cond, List, [], ◌∷◌, ◌++◌, eqb, ltb, length}
use Rattle.gabi.specs.SymbolTable.{stt_file}
use Rattle.link.specs.declared.Link.{Link}
use Rattle.symbol.specs.declared.Row.{Row}
use Rattle.symbol_resolution.specs.Decision.{Decision}
use Rattle.symbol_resolution.specs.Decide.{refusal_of}
use Rattle.strings.specs.Lookup.{Looked}
use Rattle.interner.specs.Names.{find_of}
use Rattle.elf_object.specs.Kinds.{program, uninitialized, group}
use Rattle.elf_object.specs.Rows.{rows_in, field, name_offset_at, is_loaded, name_in}
use Rattle.section_groups.specs.Group as Group
use Rattle.merge_build.specs.Build as Build
use Rattle.merge_symbols.specs.Plan.{Planned}
use Rattle.merge_symbols.specs.Plan.{Input, input_of, is_first, defines_of, filtered_at, planned_of}
use Rattle.merge_symbols.specs.Stage as Symbols
use Rattle.link.specs.Judge as Link
use Rattle.section_groups.specs.Filter.{filter_of, dropped_at}
use Rattle.merge_sections.specs.Reserve as Reserve
use Rattle.merge_build.specs.Finish as Finish
use Rattle.merge_stages.specs.Stages as Stages
use Rattle.merge_elf.specs.Merge as Merge
use Rattle.symbol_laws.specs.History.{Source, issue, put, object}
use Rattle.merge_laws.specs.Steps.{Step, part, mark, others}
use Rattle.merge_laws.specs.Loop.{loop_steps}

-- ---- symbols

-- neither the first symbol, nor a file's, nor of a section that defines a group
unfoldable pub adds_of : Bool → Bool → Bool → Bool
adds_of first file group = cond first false (cond file false (cond group false true))

abbrev pub adds : Input → List ℕ → ℕ → Bool
adds o x i =
    adds_of (is_first i (eqb (length x) 0) (filtered_at o.entries o.work i)) (eqb (filtered_at o.entries o.work i).kind stt_file)
    (defines_of o.work (filtered_at o.entries o.work i).section)

-- nothing on 2; the name on another refusal, and where there is nothing to add; else the name and the row
unfoldable pub row_steps : Source → Bool → List ℕ → Row → Decision → List Step
row_steps from adds x r d =
    cond (eqb (refusal_of d) 2) []
    (cond (eqb (refusal_of d) 0) (cond adds (part (issue x) ∷ part (put r from) ∷ []) (part (issue x) ∷ [])) (part (issue x) ∷ []))

abbrev pub planned_steps : Bool → List ℕ → Planned → List Step
planned_steps adds x p = row_steps object adds x p.row p.decision

unfoldable pub named_steps : Input → Symbols.State → List ℕ → ℕ → List Step
named_steps o s x i = planned_steps (adds o x i) x (planned_of (Symbols.view s) o x i s.stage.file)

abbrev pub looked_steps : Symbols.Object → Symbols.State → ℕ → Looked → List Step
looked_steps o s i x = cond x.found (named_steps (input_of o.entries o.work) s x.name i) []

unfoldable pub symbol_steps : Symbols.Object → Symbols.State → ℕ → List Step
symbol_steps o s i =
    cond (dropped_at s.stage.link.gabi o.work o.entries i) [] (looked_steps o s i (name_in o.headers o.image o.symbol_names (field o.entries i 0)))

abbrev pub symbols_steps : Symbols.Object → Symbols.State → List Step
symbols_steps o s = loop_steps (λ t. t.stage.number) (Symbols.symbol_of o) (symbol_steps o) (rows_in o.entries) 0 s

-- ---- groups

-- the signature's name is issued and marked
unfoldable pub signed_steps : List ℕ → List ℕ → Link → List ℕ → List Step
signed_steps bytes names l x = part (issue x) ∷ mark (find_of bytes names l x) ∷ []

-- of an accepted group
unfoldable pub group_section_steps : Group.Object → Group.Step → ℕ → List Step
group_section_steps o s n =
    cond (is_loaded o.headers n group)
    (cond (eqb (Group.group_section_of o s n).stage.number 0)
    (signed_steps s.bytes s.names s.stage.link (Group.signature_of o.headers o.entries o.image o.table n).name) []) []

abbrev pub groups_steps : Group.Object → Group.Step → List Step
groups_steps o s = loop_steps (λ t. t.stage.number) (Group.group_section_of o) (group_section_steps o) (rows_in o.headers) 0 s

-- ---- sections built

-- the name on 19; the name and the row where it is built
unfoldable pub built_steps : Build.Object → Build.State → ℕ → ℕ → Looked → List Step
built_steps o s n kind x =
    cond x.found
    (cond (eqb (Build.section_of o s n kind).stage.number 2) []
    (part (issue x.name) ∷ others (Build.section_of o s n kind).sections (Build.section_of o s n kind).stage.link ∷ [])) []

unfoldable pub section_steps : Build.Object → ℕ → Build.State → ℕ → List Step
section_steps o kind s n =
    cond (Build.built_from o.headers o.work n kind)
    (built_steps o s n kind (name_in o.headers o.image o.section_names (name_offset_at o.headers n))) []

abbrev pub build_steps : Build.Object → Build.State → ℕ → List Step
build_steps o s kind =
    loop_steps (λ t. t.stage.number) (λ t n. Build.section_of o t n kind) (section_steps o kind) (rows_in o.headers) 0 s

-- ---- the merge

-- an input's row, where nothing was refused
unfoldable pub input_steps : Finish.BuildLinks → List Step
input_steps s =
    cond (eqb s.stage.number 0) (others s.sections (Finish.input_row_of s.inputs s.stage.link).stage.link ∷ []) []

unfoldable pub program_steps : Build.Object → Finish.BuildLinks → List Step
program_steps o s =
    cond (eqb s.stage.number 0)
    (build_steps o (Finish.building s) program ++ input_steps (Finish.after_build s (Build.build_of o (Finish.building s) program))) []

unfoldable pub both_steps : Build.Object → Finish.BuildLinks → List Step
both_steps o s = build_steps o (Finish.building s) uninitialized ++ program_steps o (Finish.after_build s (Build.build_of o (Finish.building s) uninitialized))

abbrev pub build_first : Stages.SymbolLinks → Finish.BuildLinks
build_first s = Finish.build_links s.bytes s.names s.sections s.inputs s.lists (Link.going_of s.stage.link)

unfoldable pub build_stage_steps : Stages.Tabled → List ℕ → Stages.SymbolLinks → List Step
build_stage_steps o work s = cond (eqb s.stage.number 0) (both_steps (Stages.build_object o work s.ids) (build_first s)) []

abbrev pub symbol_first : Stages.SymbolLinks → Symbols.State
symbol_first s =
    Symbols.state_of s.bytes s.names s.symbols s.sections s.ids (Symbols.stage_of s.stage.link 0 0 0)

unfoldable pub table_steps : Stages.Tabled → List ℕ → Stages.SymbolLinks → List Step
table_steps o work s =
    symbols_steps (Stages.symbol_object o work) (symbol_first s)
    ++ build_stage_steps o work (Stages.after_symbols s (Symbols.symbols_of (Stages.symbol_object o work) (symbol_first s)))

unfoldable pub filtered_steps : Stages.Tabled → Stages.All → ℕ → List Step
filtered_steps o a i = cond (ltb i (rows_in o.entries)) [] (table_steps o a.work (Stages.symbols_in a))

unfoldable pub filter_steps : Stages.Tabled → Stages.All → List Step
filter_steps o a = cond (eqb a.stage.number 0) (filtered_steps o a (filter_of a.stage.link.gabi a.work o.entries)) []

abbrev pub group_first : Stages.All → Group.Step
group_first a = Group.step_of a.bytes a.names a.work (Link.going_of a.stage.link)

unfoldable pub merge_groups_steps : Stages.Tabled → Stages.All → List Step
merge_groups_steps o a =
    groups_steps (Stages.group_object o) (group_first a) ++ filter_steps o (Stages.after_groups a (Group.groups_of (Stages.group_object o) (group_first a)))

unfoldable pub group_stage_steps : Stages.Object → ℕ → Stages.All → List Step
group_stage_steps o table a = cond (eqb a.stage.number 0) (merge_groups_steps (Stages.tabled o table) (Stages.noted o a)) []

unfoldable pub reserved_steps : Stages.Object → Stages.All → Reserve.State → List Step
reserved_steps o a r =
    (others r.sections r.reserved.link ∷ []) ++ group_stage_steps o r.reserved.table (Stages.after_sections a r)

abbrev pub reserve_first : Stages.All → Reserve.State
reserve_first a = Reserve.state_of a.sections a.work (Reserve.reserved_of a.stage.link 0 0 0)

unfoldable pub stages_steps : Stages.Object → Stages.All → List Step
stages_steps o a = reserved_steps o a (Reserve.reserve_all_of o.headers (reserve_first a))

-- nothing where the head refuses; at the end a refused merge breaks the link
unfoldable pub merge_steps : Stages.Object → Stages.All → List Step
merge_steps o a =
    cond (eqb (Merge.head_in o a).number 0)
    (stages_steps o a ++ (others (Stages.stages_of o a).sections (Merge.ended_as (Stages.stages_of o a).stage).link ∷ [])) []
