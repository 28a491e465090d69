-- No stage breaks the link; only the end of a refused merge does.
-- Assumes nothing.
use Rattle.std.specs.Prelude.{ℕ, ◌≡◌, refl, Bool, List, eqb, ltb, length}
use Rattle.std.proofs.Common.{◌∙◌}
use Rattle.cells.specs.Proof.Split.{by-test}
use Rattle.link.specs.declared.Link.{Link}
use Rattle.link.specs.declared.Interned.{Interned}
use Rattle.link.specs.Bounds.{input_rows}
use Rattle.strings.specs.Lookup.{Looked}
use Rattle.interner.specs.Names.{Store, store_of, keep_of}
use Rattle.sections.specs.Rows as Sections
use Rattle.elf_object.specs.Rows.{rows_in, name_in, name_offset_at}
use Rattle.merge_sections.specs.Reserve as Reserve
use Rattle.section_groups.specs.Group as Group
use Rattle.section_groups.specs.Filter.{filter_of}
use Rattle.merge_symbols.specs.Stage as Symbols
use Rattle.merge_build.specs.Build.{Plan}
use Rattle.merge_build.specs.Relocations.{table_for, limit_of, relocations_of}
use Rattle.merge_build.specs.Build.{Object, State, RowState, lists_fit, plan_of, build_row_of, kept_of, commit_of, tabled_of, section_named, built_from, looked_of, section_of, build_of}
use Rattle.merge_build.specs.Finish.{BuildLinks, input_row_of, building, after_build, input_stage, program_stage, built_of}
use Rattle.merge_stages.specs.Stages.{All, SymbolLinks, Tabled, build_object, symbol_object, after_symbols, symbols_in, build_stage, merge_table_of, filtered_of, filter_stage, merge_groups_of, group_stage, reserved_stages, stages_of}
use Rattle.merge_stages.specs.Stages as Stages
use Rattle.merge_laws.proofs.Loop.{loop-holds}
use Rattle.merge_laws.proofs.Issue.{keeps}
use Rattle.merge_laws.proofs.Placed.{reserve-loop}
use Rattle.merge_laws.proofs.GroupStageLemmas.{groups-count}
use Rattle.merge_laws.proofs.SymbolStageLemmas.{symbols-count}
use Rattle.merge_laws.proofs.BuildStage.{number_of, build-loop}
use Rattle.merge_laws.specs.MergeSteps.{build_first, symbol_first, group_first, reserve_first}

abbrev broken : Link → Bool
broken l = l.broken

keep-broken : (s : Store) (id : Interned) (x : List ℕ) → (keep_of s id x).link.broken ≡ s.link.broken
keep-broken s id x = keeps (λ (k : Store). k.link.broken ≡ s.link.broken) s id x refl (λ h r. refl)

-- ---- sections reserved

one-broken : (headers : List ℕ) (s : Reserve.State) (n : ℕ) → (Reserve.reserve_one_of headers s n).reserved.link.broken ≡ s.reserved.link.broken
unfolding Reserve.reserve_one_of Reserve.reserve_class_of Reserve.take_row_of Sections.reserve_of
one-broken headers s n =
    let class : ℕ = Reserve.class_of headers n in
    by-test (eqb (Reserve.reserve_number s.reserved.link s.sections class s.reserved.table) 0)
    (λ a.
    by-test (eqb class 2)
    (λ b. by-test (Sections.room_of s.reserved.link s.sections) (λ c. rw (a, b, c)) (λ c. rw (a, b, c))) (λ b. rw (a, b)))
    (λ a. rw a)

reserve-broken : (headers : List ℕ) (s : Reserve.State) → (Reserve.reserve_all_of headers s).reserved.link.broken ≡ s.reserved.link.broken
unfolding Reserve.reserve_all_of
reserve-broken headers s =
    rw (reserve-loop headers (rows_in headers) 0 s)
    (loop-holds (λ t. t.reserved.number) (Reserve.reserve_one_of headers) (λ t. t.reserved.link.broken ≡ s.reserved.link.broken)
    (λ t n e. one-broken headers t n ∙ e) (rows_in headers) 0 s refl)

-- ---- sections built, and the input's row

row-broken : (headers work ids : List ℕ) (s : RowState) (relocations : List ℕ) (id : Interned) (n kind : ℕ)
    → (build_row_of headers work ids s relocations id n kind).link.broken ≡ s.link.broken
unfolding build_row_of
row-broken headers work ids s relocations id n kind =
    by-test (lists_fit s.link.lists (length s.lists) (length relocations)) (λ t. rw t) (λ t. rw t)

section-broken : (o : Object) (kind : ℕ) (s : State) (n : ℕ) → (section_of o s n kind).stage.link.broken ≡ s.stage.link.broken
unfolding section_of looked_of section_named tabled_of commit_of kept_of
section-broken o kind s n =
    let x : Looked = name_in o.headers o.image o.section_names (name_offset_at o.headers n) in
    let relocations : List ℕ = relocations_of o.headers o.contents (table_for o.work n kind) in
    let q : Plan =
    plan_of s.stage.link s.bytes s.names (length s.lists) o.ids (limit_of o.headers (table_for o.work n kind) o.table o.symbols) relocations x.name in
    let named = keep-broken (store_of s.bytes s.names s.stage.link) q.id x.name in
    by-test (built_from o.headers o.work n kind)
    (λ a.
    by-test x.found
    (λ b.
    by-test (eqb q.number 2) (λ c. simp (a, b, c))
    (λ c.
    by-test (eqb q.number 0) (λ d. simp (a, b, c, d) (row-broken o.headers o.work o.ids _ relocations q.id n kind ∙ named))
    (λ d. simp (a, b, c, d) named)))
    (λ b. simp (a, b)))
    (λ a. simp a)

build-broken : (o : Object) (kind : ℕ) (s : State) → (build_of o s kind).stage.link.broken ≡ s.stage.link.broken
unfolding build_of
build-broken o kind s =
    rw (build-loop o kind (rows_in o.headers) 0 s)
    (loop-holds number_of (λ t n. section_of o t n kind) (λ t. t.stage.link.broken ≡ s.stage.link.broken) (λ t n e. section-broken o kind t n ∙ e)
    (rows_in o.headers) 0 s refl)

input-broken : (s : BuildLinks) → (input_stage s).stage.link.broken ≡ s.stage.link.broken
unfolding input_stage input_row_of
input-broken s =
    by-test (eqb s.stage.number 0)
    (λ a. by-test (ltb s.stage.link.inputs (input_rows (length s.inputs))) (λ b. rw (a, b)) (λ b. rw (a, b))) (λ a. rw a)

program-broken : (o : Object) (s : BuildLinks) → (program_stage o s).stage.link.broken ≡ s.stage.link.broken
unfolding program_stage
program-broken o s =
    by-test (eqb s.stage.number 0)
    (λ a. rw a (input-broken (after_build s (build_of o (building s) 1)) ∙ build-broken o 1 (building s))) (λ a. rw a)

built-broken : (o : Object) (s : BuildLinks) → (built_of o s).stage.link.broken ≡ s.stage.link.broken
unfolding built_of
built-broken o s = program-broken o (after_build s (build_of o (building s) 2)) ∙ build-broken o 2 (building s)

-- ---- all stages

build-stage-broken : (o : Tabled) (work : List ℕ) (s : SymbolLinks) → (build_stage o work s).stage.link.broken ≡ s.stage.link.broken
unfolding build_stage
build-stage-broken o work s =
    by-test (eqb s.stage.number 0) (λ a. rw a (built-broken (build_object o work s.ids) (build_first s))) (λ a. rw a)

table-broken : (o : Tabled) (work : List ℕ) (s : SymbolLinks) → (merge_table_of o work s).stage.link.broken ≡ s.stage.link.broken
unfolding merge_table_of
table-broken o work s =
    build-stage-broken o work (after_symbols s (Symbols.symbols_of (symbol_object o work) (symbol_first s)))
    ∙ symbols-count broken keep-broken (λ l n. refl) (symbol_object o work) (symbol_first s)

filter-broken : (o : Tabled) (a : All) → (filter_stage o a).stage.link.broken ≡ a.stage.link.broken
unfolding filter_stage filtered_of
filter-broken o a =
    by-test (eqb a.stage.number 0)
    (λ z.
    by-test (ltb (filter_of a.stage.link.gabi a.work o.entries) (rows_in o.entries)) (λ t. rw (z, t)) (λ t. rw (z, t) (table-broken o a.work (symbols_in a))))
    (λ z. rw z)

groups-broken : (o : Stages.Object) (table : ℕ) (a : All) → (group_stage o table a).stage.link.broken ≡ a.stage.link.broken
unfolding group_stage merge_groups_of Group.groups_of
groups-broken o table a =
    let b : All = Stages.noted o a in
    let t : Tabled = Stages.tabled o table in
    by-test (eqb a.stage.number 0)
    (λ z.
    rw z
    (filter-broken t (Stages.after_groups b (Group.groups_of (Stages.group_object t) (group_first b)))
    ∙ groups-count broken keep-broken (Stages.group_object t) (rows_in o.headers) (group_first b)))
    (λ z. rw z)

pub stages-broken : (o : Stages.Object) (a : All) → (stages_of o a).stage.link.broken ≡ a.stage.link.broken
unfolding stages_of reserved_stages
stages-broken o a =
    let r : Reserve.State = Reserve.reserve_all_of o.headers (reserve_first a) in
    groups-broken o r.reserved.table (Stages.after_sections a r) ∙ reserve-broken o.headers (reserve_first a)
