-- Merges, loads and collections leave built sections with names within the names' rows.
-- Assumes nothing.
use Rattle.link.specs.declared.SectionId.{SectionId}
use Rattle.link.specs.declared.Interned.{Interned}
use Rattle.std.specs.Prelude.{ℕ, zero, suc, ◌+◌, ◌/◌, ◌≡◌, refl, List, eqb, ltb, leb, length, get_or, Option, None, Some}
use Rattle.cells.specs.Proof.Split.{by-test}
use Rattle.link.specs.declared.Link.{Link}
use Rattle.link.specs.declared.Lent.{Lent}
use Rattle.link.specs.declared.SymbolId.{SymbolId}
use Rattle.link.specs.Bounds.{input_rows, section_slots}
use Rattle.link.specs.Judge.{change_of}
use Rattle.strings.specs.Lookup.{Looked}
use Rattle.interner.specs.Names.{Store, store_of, fits_of, keep_of}
use Rattle.interner.specs.Calls as Names
use Rattle.interner.specs.Calls.{issue_of, intern_of}
use Rattle.interner_laws.specs.Interns.{id_of}
use Rattle.symbol.specs.declared.Row.{Row}
use Rattle.upcoming_symbol.specs.declared.UpcomingSymbol.{UpcomingSymbol}
use Rattle.upcoming_symbol.specs.Upcoming.{row_of}
use Rattle.upcoming_symbol.specs.Upcoming as Upcoming
use Rattle.symbol_resolution.specs.Apply.{Table}
use Rattle.symbols.specs.Calls as Calls
use Rattle.symbols.specs.Add.{file_of, decided_of, add_row_of, judge_add_of, empty_at, lent, add_of}
use Rattle.symbols.specs.Proof.AddOutcomes.{added-left}
use Rattle.elf_object.specs.Rows.{rows_in}
use Rattle.sections.specs.Rows.{is_built}
use Rattle.symbols.specs.Remove.{Rows, rows_of, remove_of}
use Rattle.section_groups.specs.Filter.{filter_of}
use Rattle.section_groups.specs.Group.{Plan}
use Rattle.section_groups.specs.Group as Group
use Rattle.section_groups.specs.Group.{plan_of, commit_group_of, signature_of, signed_of, shape_of, shaped_of, group_of}
use Rattle.section_groups.specs.AddGroup as AddGroup
use Rattle.section_groups.specs.AddGroup.{answer_of, add_group_of}
use Rattle.merge_sections.specs.Reserve as Reserve
use Rattle.merge_sections.specs.Reserve.{reserve_all_of}
use Rattle.merge_symbols.specs.Stage as Symbols
use Rattle.merge_build.specs.Build as Build
use Rattle.merge_build.specs.Build.{build_of}
use Rattle.merge_build.specs.Finish.{BuildLinks, building, after_build, input_row_of, input_stage, program_stage, built_of}
use Rattle.merge_stages.specs.Stages.{All, Object, SymbolLinks, Tabled, symbol_object, build_object, group_object, after_symbols, build_stage, merge_table_of, after_groups, symbols_in, filtered_of, filter_stage, merge_groups_of, after_sections, noted, tabled, group_stage, reserved_stages, stages_of}
use Rattle.merge_elf.specs.Merge.{ended_as, head_in, finished_of, merge_of}
use Rattle.merge_laws.specs.MergeSteps.{build_first, symbol_first, group_first, reserve_first}
use Rattle.merge_laws.proofs.GroupStageLemmas.{groups-count}
use Rattle.shared_objects.specs.Load as Load
use Rattle.shared_objects.specs.Load.{links_in, wanted_of, name_of, load_of}
use Rattle.shared_objects.specs.Stages.{library_of}
use Rattle.load_laws.proofs.Sections.{load-sections}
use Rattle.load_laws.specs.Stops.{want}
use Rattle.load_laws.proofs.Unbroken.{library-count}
use Rattle.gc_sections.specs.Each.{each}
use Rattle.gc_sections.specs.Roots.{symbol_id, lead_of}
use Rattle.gc_sections.specs.Reach as Reach
use Rattle.gc_sections.specs.Reach.{walked}
use Rattle.gc_sections.specs.Sweep.{Swept, swept_of, Purged, purged_of, drop_unreached, dropped_now, purge_lead, purge_symbol, purge_symbols, sweep_sections}
use Rattle.gc_sections.specs.Run as Run
use Rattle.gc_sections.specs.Run.{purge_of, sweep_of, finish_of, finished, collect_of, run_of}
use Rattle.key_laws.specs.Rekeyed.{Rekeyed}
use Rattle.key_laws.specs.SectionNames.{Named}
use Rattle.key_laws.proofs.SectionNames.{BuiltNamed, shape, named-shape, keep_shape, dropped-named, remove-row-named, applied-named, reserved-named, symbols-named, build-named}
use Rattle.key_laws.proofs.Groups.{groups-moved}
use Rattle.key_laws.proofs.Merge.{all_store, all-beside}

-- ---- names, symbols and groups

pub intern-named : (s : Store) (x rows : List ℕ) → Named s.link rows → Named (intern_of s x).store.link rows
unfolding intern_of issue_of
intern-named s x rows h =
    by-test (eqb (change_of s.link (Names.lent s)).number 0)
    (λ a.
    by-test (fits_of s (id_of s x) (length x)) (λ b. rw (a, b) (named-shape s.link (keep_of s (id_of s x) x).link rows (keep_shape s (id_of s x) x) h)) (λ b. rw (a, b) h))
    (λ a. rw a h)

row_named : (t : Table) (r : Row) (file : Option Interned) → Named t.link t.sections → Named (add_row_of t r file).table.link (add_row_of t r file).table.sections
row_named t r file h = added-left t r file (λ (u : Table). Named u.link u.sections) h (applied-named t r (decided_of t r file) h)

pub add-named : (t : Table) (conversion : List ℕ) (u : UpcomingSymbol) → Named t.link t.sections
    → Named (add_of t conversion u).table.link (add_of t conversion u).table.sections
unfolding add_of
add-named t conversion u h =
    by-test (eqb (judge_add_of t.link (lent t) u).number 0)
    (λ a. rw a (row_named t (row_of t.link.gabi conversion u (empty_at t.names (Upcoming.name_of u))) (file_of u) h)) (λ a. rw a h)

pub remove-named : (l : Link) (x : Rows) (id : SymbolId) → Named l x.sections → Named l (remove_of l x id).rows.sections
unfolding remove_of
remove-named l x id h =
    let n : Lent = Calls.lent_of l.chains (length x.symbols) (section_slots (length x.sections)) in
    by-test (eqb (change_of l n).number 0)
    (λ a. by-test (leb l.symbols id.0) (λ c. rw (a, c) h) (λ c. rw (a, c) (remove-row-named l x id h))) (λ a. rw a h)

group-shape : (o : Group.Object) (s : Group.State) (i : ℕ) → shape (group_of o s i).stage.link ≡ shape s.link
unfolding group_of shaped_of signed_of Group.group_named Group.decided_of commit_group_of
group-shape o s i =
    let x : Looked = signature_of o.headers o.entries o.image o.table i in
    let p : Plan = plan_of s.link s.bytes s.names (length s.work / 8) x.name (Group.listed_in o i) in
    by-test (eqb (shape_of o s.work i) 0)
    (λ a.
    by-test x.found
    (λ b.
    by-test (eqb p.number 0) (λ c. rw (a, b, c) (keep_shape (store_of s.bytes s.names s.link) p.signature x.name)) (λ c. rw (a, b, c)))
    (λ b. rw (a, b)))
    (λ a. rw a)

pub group-named : (o : Group.Object) (s : Group.State) (i : ℕ) (rows : List ℕ) → Named s.link rows → Named (add_group_of o s i).outcome.link rows
unfolding add_group_of answer_of
group-named o s i rows h =
    let g : Named (group_of (AddGroup.loaded_in o) s i).stage.link rows = named-shape s.link (group_of (AddGroup.loaded_in o) s i).stage.link rows (group-shape (AddGroup.loaded_in o) s i) h in
    by-test (eqb (AddGroup.head_in o s i).number 0)
    (λ a. by-test (eqb (group_of (AddGroup.loaded_in o) s i).stage.number 0) (λ b. rw (a, b) g) (λ b. rw (a, b) g)) (λ a. rw a h)

-- ---- a merge

input-named : (s : BuildLinks) → Named s.stage.link s.sections → Named (input_stage s).stage.link (input_stage s).sections
unfolding input_stage input_row_of
input-named s h =
    by-test (eqb s.stage.number 0)
    (λ a. by-test (ltb s.stage.link.inputs (input_rows (length s.inputs))) (λ b. rw (a, b) h) (λ b. rw (a, b) h)) (λ a. rw a h)

program-named : (o : Build.Object) (s : BuildLinks) → BuiltNamed s.stage.link s.sections → Named (program_stage o s).stage.link (program_stage o s).sections
unfolding program_stage
program-named o s h =
    by-test (eqb s.stage.number 0)
    (λ a. rw a (input-named (after_build s (build_of o (building s) 1)) (build-named o 1 (building s) h).named)) (λ a. rw a h.named)

built-named : (o : Build.Object) (s : BuildLinks) → BuiltNamed s.stage.link s.sections → Named (built_of o s).stage.link (built_of o s).sections
unfolding built_of
built-named o s h = program-named o (after_build s (build_of o (building s) 2)) (build-named o 2 (building s) h)

build-stage-named : (o : Tabled) (work : List ℕ) (s : SymbolLinks) → BuiltNamed s.stage.link s.sections
    → Named (build_stage o work s).stage.link (build_stage o work s).sections
unfolding build_stage
build-stage-named o work s h =
    by-test (eqb s.stage.number 0) (λ a. rw a (built-named (build_object o work s.ids) (build_first s) h)) (λ a. rw a h.named)

table-named : (o : Tabled) (work : List ℕ) (s : SymbolLinks) → BuiltNamed s.stage.link s.sections
    → Named (merge_table_of o work s).stage.link (merge_table_of o work s).sections
unfolding merge_table_of
table-named o work s h =
    build-stage-named o work (after_symbols s (Symbols.symbols_of (symbol_object o work) (symbol_first s))) (symbols-named (symbol_object o work) (symbol_first s) h)

filter-named : (o : Tabled) (a : All) → BuiltNamed a.stage.link a.sections → Named (filter_stage o a).stage.link (filter_stage o a).sections
unfolding filter_stage filtered_of
filter-named o a h =
    by-test (eqb a.stage.number 0)
    (λ z.
    by-test (ltb (filter_of a.stage.link.gabi a.work o.entries) (rows_in o.entries)) (λ t. rw (z, t) h.named) (λ t. rw (z, t) (table-named o a.work (symbols_in a) h)))
    (λ z. rw z h.named)

module _ (k : ℕ) where
  groups-named : (o : Tabled) (a : All) (n : List ℕ) → Rekeyed k (all_store a) n → Named a.stage.link a.sections
      → Named (merge_groups_of o a).stage.link (merge_groups_of o a).sections
  unfolding merge_groups_of Group.groups_of
  groups-named o a n e h =
      let g : Group.Step = Group.groups_of (group_object o) (group_first a) in
      filter-named o (after_groups a g)
      (record {
        named = named-shape a.stage.link g.stage.link a.sections (groups-count shape keep_shape (group_object o) (rows_in o.headers) (group_first a)) h;
        low = (groups-moved k (group_object o) (group_first a) n e).alike.good.chained.rows_in;
      })

  stages-named : (o : Object) (a : All) (n : List ℕ) → Rekeyed k (all_store a) n → Named a.stage.link a.sections
      → Named (stages_of o a).stage.link (stages_of o a).sections
  unfolding stages_of reserved_stages group_stage
  stages-named o a n e h =
      let r : Reserve.State = reserve_all_of o.headers (reserve_first a) in
      let g : Named r.reserved.link r.sections = reserved-named o.headers (reserve_first a) h in
      by-test (eqb r.reserved.number 0)
      (λ z.
      rw z
      (groups-named (tabled o r.reserved.table) (noted o (after_sections a r)) n (all-beside k a.bytes a.names n o.headers (reserve_first a) e).alike g))
      (λ z. rw z g)

  pub merge-named : (o : Object) (a : All) (n : List ℕ) → Rekeyed k (all_store a) n → Named a.stage.link a.sections
      → Named (merge_of o a).cells.stage.link (merge_of o a).cells.sections
  unfolding merge_of finished_of ended_as
  merge-named o a n e h =
      let g : Named (stages_of o a).stage.link (stages_of o a).sections = stages-named o a n e h in
      by-test (eqb (head_in o a).number 0)
      (λ z. by-test (eqb (stages_of o a).stage.number 0) (λ t. rw (z, t) g) (λ t. rw (z, t) g)) (λ z. rw z h)

-- ---- a load

load-shape : (o : Load.Input) (a : Load.All) → shape (load_of o a).cells.link ≡ shape a.link
unfolding load_of Load.library_named wanted_of Load.ended_as
load-shape o a =
    let q = library-count shape keep_shape (λ l n. refl) (λ l n. refl) (λ l. refl) o.entries o.image o.needs (links_in a) (name_of o) in
    by-test (eqb (Load.head_in o a).number 0)
    (λ h.
    by-test (want o a).needed
    (λ w.
    by-test (eqb (library_of o.entries o.image o.needs (links_in a) (name_of o)).stage.number 0) (λ t. rw (h, w, t) q) (λ t. rw (h, w, t) q))
    (λ w. rw (h, w)))
    (λ h. rw h)

pub load-named : (o : Load.Input) (a : Load.All) → Named a.link a.sections → Named (load_of o a).cells.link (load_of o a).cells.sections
load-named o a h = rw (load-sections o a) (named-shape a.link (load_of o a).cells.link a.sections (load-shape o a) h)

-- ---- a collection

each_holds : {S : Type 0} (P : S → Type 0) (f : ℕ → S → S) → ((i : ℕ) (s : S) → P s → P (f i s)) → (n i : ℕ) (s : S) → P s → P (each f n i s)
unfolding each
each_holds P f q zero i s h = h
each_holds P f q (suc n) i s h = each_holds P f q n (i + 1) (f i s) (q i s h)

module _ (l : Link) where
  drop_named : (n i : ℕ) (s : Swept) → Named l s.sections → Named l (drop_unreached n i s).sections
  unfolding drop_unreached
  drop_named n i s h =
      by-test (is_built s.sections n i)
      (λ a. by-test (eqb (get_or s.work i 0) 0) (λ b. rw (a, b) (dropped-named l s.sections i h)) (λ b. rw (a, b) h)) (λ a. rw a h)

  lead-named : (work : List ℕ) (i : ℕ) (x : Option SectionId) (s : Purged) → Named l s.rows.sections → Named l (purge_lead l work i x s).rows.sections
  lead-named work i None s h = h
  lead-named work i (Some x) s h =
      by-test (dropped_now work l.sections x.0) (λ a. rw a (remove-row-named l s.rows (symbol_id i) h)) (λ a. rw a h)

  purge-named : (work : List ℕ) (i : ℕ) (s : Purged) → Named l s.rows.sections → Named l (purge_symbol l work i s).rows.sections
  unfolding purge_symbol
  purge-named work i s h = lead-named work i (lead_of s.rows.symbols l.symbols (symbol_id i)) s h

  pub finish-named : (symbols sections work : List ℕ) (x : Option SectionId) → Named l sections → Named l (finish_of l symbols sections work x).sections
  unfolding sweep_of purge_of sweep_sections purge_symbols
  finish-named symbols sections work None h =
      let s : Swept = sweep_sections l.sections sections work in
      each_holds (λ (p : Purged). Named l p.rows.sections) (purge_symbol l s.work) (purge-named s.work) l.symbols 0 (purged_of (rows_of symbols s.sections) 0)
      (each_holds (λ (p : Swept). Named l p.sections) (drop_unreached l.sections) (drop_named l.sections) l.sections 0 (swept_of sections work 0) h)
  finish-named symbols sections work (Some id) h = h

  pub collect-named : (x : Run.Lists) (symbols sections : List ℕ) (entry : Option SymbolId) (work : List ℕ) → Named l sections
      → Named l (run_of l x symbols sections entry work).sections
  unfolding run_of collect_of finished
  collect-named x symbols sections entry work h =
      let w : Reach.Walk = walked l x.bytes x.names symbols sections x.lists x.marks entry work in
      by-test (eqb (Run.judged l x symbols sections work).number 0) (λ a. rw a (finish-named symbols sections w.work w.visitor.unbuilt h)) (λ a. rw a h)
