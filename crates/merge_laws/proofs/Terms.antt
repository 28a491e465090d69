-- The statements about merges. The longer proofs stand in the other files.
-- Assumes nothing.
use Rattle.std.specs.Prelude.{ℕ, suc, ◌<◌, ◌≤◌, ◌≡◌, refl, Bool, true, false, cond, not, List, [], ◌∷◌, ◌++◌, ◌≢◌, set, get_or, length, Ok, Err}
use Rattle.std.proofs.Common.{ap, ◌∙◌, subst, eq-eqb}
use Rattle.gabi.specs.SymbolTable.{Sym, is_local}
use Rattle.gabi.specs.Resolution.{resolve}
use Rattle.gabi.specs.Groups as Gabi
use Rattle.gabi.specs.Groups.{stays, gone, unsaid, after_discard}
use Rattle.link.specs.Said.{number_in, value_in}
use Rattle.link.specs.Judge.{refused, broken_of}
use Rattle.symbol_resolution.specs.Holder.{global_at}
use Rattle.symbols.specs.New.{new_of}
use Rattle.symbols.specs.Lookup.{not_found, get_global_of}
use Rattle.symbol.specs.RowLaws.{symbol_of}
use Rattle.symbol.specs.Codes.{successor}
use Rattle.link.specs.Bounds.{not_lent}
use Rattle.elf_object.specs.Rows.{rows_in, field, elf_at, is_loaded, comdat_at, count_at}
use Rattle.elf_object.specs.Judge.{first_bad}
use Rattle.sections.specs.Rows.{state_at}
use Rattle.merge_sections.specs.Reserve.{class_of}
use Rattle.section_groups.specs.Group.{shape_of, mark_group_of, mark_all, group_section_of}
use Rattle.section_groups.specs.Filter.{section_after, discarded_at, dropped_at, symbol_ok, filter_of}
use Rattle.merge_symbols.specs.Plan.{input_of, filtered_at}
use Rattle.merge_symbols.specs.Stage as Symbols
use Rattle.merge_build.specs.Build as Build
use Rattle.merge_build.specs.Build.{section_of}
use Rattle.merge_stages.specs.Stages.{All, Object, table_of, stop, filtered_of, filter_stage}
use Rattle.merge_elf.specs.Merge.{leave, head_in, merge_of}
use Rattle.symbol_laws.specs.Rank.{first_by_rank, joined_in}
use Rattle.symbol_laws.specs.History.{opened, Entry, only, rows, issue, put_of, part_next}
use Rattle.symbol_laws.specs.Held.{Inv}
use Rattle.symbol_laws.proofs.Start.{new-inv}
use Rattle.symbol.specs.Row.{row_at}
use Rattle.symbol_laws.specs.Standing.{hidden_by}
use Rattle.symbol_laws.proofs.Profile.{new-profile}
use Rattle.symbol_laws.specs.Demand as Demand
use Rattle.symbol_laws.proofs.Demand as DemandLaws
use Rattle.symbol_laws.specs.Within as Within
use Rattle.symbol_laws.proofs.Within as WithinLaws
use Rattle.symbol_laws.proofs.BelowLemmas.{inv-below}
use Rattle.symbol_laws.specs.Writes as Writes
use Rattle.symbol_laws.proofs.WritesLemmas as WritesLaws
use Rattle.symbol_laws.specs.Gabi.{AllMean, sym_of_row, syms_of, sym_of}
use Rattle.symbol_laws.proofs.Gabi.{all-mean-own}
use Rattle.symbol_laws.specs.Agreement as Agreement
use Rattle.symbol_laws.proofs.Agreement as AgreementLaws
use Rattle.merge_laws.specs.Steps.{log_steps, Makes}
use Rattle.merge_laws.specs.MergeSteps.{adds, merge_steps}
use Rattle.merge_laws.specs.SymbolStage as SymbolStage
use Rattle.merge_laws.proofs.SymbolIdsLemmas as SymbolIdsLaws
use Rattle.merge_laws.specs.SymbolIds.{is_dropped, name_of, plan_of}
use Rattle.merge_laws.specs.Whole.{table_in}
use Rattle.merge_laws.proofs.Whole.{merge-makes}
use Rattle.merge_laws.specs.Kept.{added_rows}
use Rattle.merge_laws.proofs.Kept.{log-rows}
use Rattle.merge_laws.specs.Seen.{parts_in, MadeAlone}
use Rattle.merge_laws.proofs.Seen.{makes-parts}
use Rattle.merge_laws.specs.Calls.{Linked, linked, all_in, Call, merge, call_next, run_calls, log_calls, RemovesNothing, signatures}
use Rattle.merge_laws.proofs.Calls.{calls-keep-inv, calls-marked}
use Rattle.merge_laws.proofs.Profile.{calls-profile}
use Rattle.merge_laws.specs.Stops as Stages
use Rattle.merge_laws.specs.Stops.{groups_to}
use Rattle.merge_laws.specs.ByNumber as ByNumber
use Rattle.merge_laws.proofs.ByNumber as ByNumberLaws
use Rattle.merge_laws.specs.Marked.{marks_of, Marked}
use Rattle.merge_laws.proofs.MarkedLemmas.{new-marked}
use Rattle.merge_laws.proofs.FirstKept as FirstKept
use Rattle.merge_laws.specs.FirstKept.{reader, met_to, signature, listed, removed_in}
use Rattle.symbol_laws.specs.ObjectWords.{program}
use Rattle.merge_laws.specs.MergeWords.{lists_again}
use Rattle.merge_laws.proofs.ListedTwice as ListedTwice
use Rattle.merge_laws.specs.DroppedSymbols.{Gone, Nothing, Names, Named}
use Rattle.merge_laws.proofs.DroppedSymbols as DroppedSymbols
use Rattle.merge_laws.specs.Discarded as Discarded
use Rattle.merge_laws.proofs.Discarded as DiscardedLaws
use Rattle.merge_laws.specs.Accepted as Accepted
use Rattle.merge_laws.proofs.Accepted as AcceptedLaws
use Rattle.merge_laws.specs.Placed.{row_of}
use Rattle.merge_laws.proofs.RowStays as RowStays
use Rattle.merge_laws.proofs.Lookups as Lookups
use Rattle.merge_laws.proofs.Lookups.{new-lists}
use Rattle.merge_laws.specs.Past as Past
use Rattle.merge_laws.proofs.Past as PastLaws
use Rattle.merge_laws.specs.Lists as Lists
use Rattle.merge_laws.proofs.Lists as ListsLaws
use Rattle.merge_laws.specs.Table.{one_of, section_causes, early_causes}
use Rattle.merge_laws.specs.Differences.{removed, one_local}
use Rattle.merge_laws.specs.Unsupported.{answers, cases, numbers}
use Rattle.merge_laws.proofs.Unsupported as Unsupported

-- ---- demand 3a

-- for every object and whatever the lent cells hold, also where it is refused half way: a merge leaves names, symbols, section rows, sections'
-- symbols and counts as its steps leave them that are made one by one, and each step is accepted where it is made
pub merge-is-its-steps : (o : Object) (a : All) → Makes (table_in a) (merge_steps o a) (table_in (merge_of o a).cells)
merge-is-its-steps = merge-makes

-- so the log of its steps has every row that it adds and that isn't local
pub merge-log : (o : Object) (a : All) → rows (log_steps (merge_steps o a) (table_in a)) ≡ added_rows (merge_steps o a)
merge-log o a = log-rows (merge_steps o a) (table_in a) (merge-makes o a).accepted

-- and of an accepted merge these are, in order, the rows of all symbols that are added and aren't local, each as it is planned on what the symbols
-- before it left (`symbol_rows`, specs/Accepted.antt): no add is left out
pub merge-log-whole : (o : Object) (a : All) → (merge_of o a).said.number ≡ 0
    → rows (log_steps (merge_steps o a) (table_in a)) ≡ Accepted.symbol_rows o a (rows_in (Stages.object o a).entries)
merge-log-whole o a ok = merge-log o a ∙ AcceptedLaws.merge-rows o a ok

-- with no more names than rows, as after every history from a new table: names issued and rows added one by one, as direct calls do it, leave the
-- same names but for the groups' marks, the same symbols, sections' symbols and counts of names and symbols; each is accepted where it is made,
-- and the log is the same
pub merge-is-its-parts : (o : Object) (a : All) → a.stage.link.names ≤ a.stage.link.chains
    → MadeAlone (table_in a) (merge_steps o a) (table_in (merge_of o a).cells) (parts_in (merge_steps o a))
merge-is-its-parts o a r = makes-parts (table_in a) (table_in (merge_of o a).cells) (merge_steps o a) r (merge-makes o a)

-- the cell of an accepted symbol that is added has the id that its add is answered, and 1; s is what the symbols before it left
pub symbol-ids : (o : Symbols.Object) (s : Symbols.State) (i : ℕ) → is_dropped o s i ≡ false → (name_of o i).found ≡ true → adds (input_of o.entries o.work) (name_of o i).name i ≡ true
    → (Symbols.symbol_of o s i).stage.number ≡ 0
    → (Symbols.symbol_of o s i).ids
    ≡ set s.ids i (successor (value_in (put_of (part_next (issue (name_of o i).name) (SymbolStage.table_in s)) (plan_of o s i).row).said))
symbol-ids = SymbolIdsLaws.symbol-id

-- "Let a link be a new table", and inputs and lists
module _ (key : ℕ) (gabi : Bool) (bytes names symbols sections inputs lists : List ℕ) (new : number_in (new_of key gabi bytes names symbols sections).said ≡ 0) where
  abbrev pub start : Linked
  start = linked (opened (new_of key gabi bytes names symbols sections)) inputs lists

  -- "and any sequence of calls that removes nothing": adds, interns and merges, refused ones too
  module _ (ks : List Call) (quiet : RemovesNothing ks start) where
    abbrev pub end : Linked
    end = run_calls ks start

    -- a name's accepted adds, "local adds set aside", direct ones and those of merges
    abbrev pub accepted_adds : ℕ → List Entry
    accepted_adds n = only n (log_calls ks start)

    kept : Inv end.table (log_calls ks start)
    kept = calls-keep-inv ks start [] quiet (new-inv key gabi bytes names symbols sections new)

    marked : Marked end.table (signatures ks start)
    marked = calls-marked ks start [] quiet (new-marked key gabi bytes names symbols sections new)

    -- no call changes the profile
    pub profile : end.table.link.gabi ≡ gabi
    profile = calls-profile ks start ∙ new-profile key gabi bytes names symbols sections new

    -- "each global name has the id of its first accepted add and the content of its first accepted strong definition, else weak
    -- definition, else add"
    pub demand-3a : (n : ℕ) (x : Entry) (xs : List Entry) → accepted_adds n ≡ x ∷ xs → Demand.Resolved gabi end.table n x xs
    demand-3a n x xs e = subst (λ (g : Bool). Demand.Resolved g end.table n x xs) profile (DemandLaws.resolved end.table _ kept n x xs e)

    -- a name without accepted global add has no row
    pub no_row : (n : ℕ) → accepted_adds n ≡ [] → n < end.table.link.names → global_at end.table.names n ≡ 0
    no_row n e i = DemandLaws.no_row end.table _ kept n e i

    -- what a lookup by a name then answers; a lent list has fewer than 2^64 cells
    module _ (lent : length lists ≤ not_lent) where
      within : Within.Within end.table.link end.table.names
      within = Lookups.calls-within ks start quiet (WithinLaws.new-within key gabi bytes names symbols sections new) (new-lists key gabi bytes names symbols sections lists) lent

      pub lookup-row : (n : ℕ) (x : Entry) (xs : List Entry) → accepted_adds n ≡ x ∷ xs
          → get_global_of end.table.link end.table.names end.table.symbols (record { 0 = n }) ≡ Ok (symbol_of (record { 0 = x.id }) (hidden_by gabi (rows (x ∷ xs)) (joined_in (rows (x ∷ xs)) (first_by_rank gabi x.row (rows xs)))))
      lookup-row n x xs e =
          WithinLaws.lookup-row end.table _ kept within n x xs e
          ∙ ap (λ (g : Bool). Ok (symbol_of (record { 0 = x.id }) (hidden_by g (rows (x ∷ xs)) (joined_in (rows (x ∷ xs)) (first_by_rank g x.row (rows xs)))))) profile

      pub lookup-none : (n : ℕ) → accepted_adds n ≡ [] → get_global_of end.table.link end.table.names end.table.symbols (record { 0 = n }) ≡ not_found 23 0
      lookup-none = WithinLaws.lookup-none end.table _ kept within

    -- an id once given to a name stays its own
    pub ids-stay : (ls : List Call) → RemovesNothing ls end → (n : ℕ) → n < end.table.link.names → global_at end.table.names n ≢ 0
        → Writes.Bears (run_calls ls end).table n (global_at end.table.names n)
    ids-stay ls q n i z = WritesLaws.stays end.table (run_calls ls end).table _ _ kept (calls-keep-inv ls end _ q kept) n i z

    -- whichever symbols the rows mean
    pub gabi-agrees-any : (n : ℕ) (x : Entry) (xs : List Entry) → accepted_adds n ≡ x ∷ xs → (s : Sym) (ss : List Sym) → AllMean (rows (x ∷ xs)) (s ∷ ss)
        → Agreement.Agrees gabi x.row (rows xs) s ss (row_at end.table.symbols x.id) (resolve (s ∷ ss))
    gabi-agrees-any n x xs e s ss m =
        subst (λ (g : Bool). Agreement.Agrees g x.row (rows xs) s ss (row_at end.table.symbols x.id) (resolve (s ∷ ss))) profile
        (AgreementLaws.accepted end.table _ kept n x xs e s ss m)

    -- of the symbols that are accepted under a name the gABI resolves to the one that the row has; undefined where it has none
    pub gabi-agrees : (n : ℕ) (x : Entry) (xs : List Entry) → accepted_adds n ≡ x ∷ xs
        → Agreement.Agrees gabi x.row (rows xs) (sym_of_row x.row) (syms_of (rows xs)) (row_at end.table.symbols x.id) (resolve (syms_of (rows (x ∷ xs))))
    gabi-agrees n x xs e = gabi-agrees-any n x xs e _ _ (all-mean-own (rows (x ∷ xs)))

    -- one more merge
    module _ (o : Object) (work ids : List ℕ) where
      abbrev pub all : All
      all = all_in end work ids

      -- "Rows past the count are never written"
      pub past-the-count : Past.TablePast end.table (call_next (merge o work ids) end).table
      past-the-count = PastLaws.makes-past end.table (call_next (merge o work ids) end).table (merge_steps o all) (inv-below end.table _ kept) (merge-makes o all)

      -- of several groups of one signature, in this and earlier objects, the first is kept: where section n is an accepted group, its listed
      -- section is marked as removed unless the gABI keeps the group, whatever groups follow
      pub first-kept : (n : ℕ) → is_loaded (reader o all).headers n 7 ≡ true → (group_section_of (reader o all) (groups_to o all n) n).stage.number ≡ 0
          → (later : List (List ℕ))
          → let met = met_to o all (signatures ks start) n in
          (group_section_of (reader o all) (groups_to o all n) n).work
          ≡ mark_all (mark_group_of (groups_to o all n).work n) (not (Gabi.kept (met ++ signature o all n ∷ later) (length met))) (listed o all n)
      first-kept = FirstKept.first-kept o all (signatures ks start) marked

      -- where the signatures met are those of the groups accepted before, in order
      pub met-group : (n : ℕ) → (groups_to o all n).stage.number ≡ 0 → is_loaded (reader o all).headers n 7 ≡ true
          → (group_section_of (reader o all) (groups_to o all n) n).stage.number ≡ 0
          → met_to o all (signatures ks start) (suc n) ≡ met_to o all (signatures ks start) n ++ (signature o all n ∷ [])
      met-group = FirstKept.met-group o all (signatures ks start) marked

      pub met-other : (n : ℕ) → (groups_to o all n).stage.number ≡ 0 → is_loaded (reader o all).headers n 7 ≡ false
          → met_to o all (signatures ks start) (suc n) ≡ met_to o all (signatures ks start) n
      met-other = FirstKept.met-other o all (signatures ks start) marked

      -- an accepted merge marks the signatures of all its groups, in order, excluded ones aside
      pub merge-signatures : (merge_of o all).said.number ≡ 0 → marks_of (merge_steps o all) end.table ≡ Accepted.signatures_to o all (rows_in o.headers)
      merge-signatures ok = AcceptedLaws.merge-signatures o all ok (signatures ks start) marked

      -- the section of a group that the gABI doesn't keep: its mark stands until the merge's end, so it isn't built, and its symbols are undefined
      pub repeated-discarded : (Stages.grouped o all).stage.number ≡ 0 → (n : ℕ) → n < rows_in o.headers → is_loaded o.headers n 7 ≡ true → (later : List (List ℕ))
          → let met = met_to o all (signatures ks start) n in
          Gabi.kept (met ++ signature o all n ∷ later) (length met) ≡ false
          → (i : ℕ) → i < length (listed o all n) → Discarded.Discarded o all (get_or (listed o all n) i 0)
      repeated-discarded = DiscardedLaws.repeated-discarded o all (signatures ks start) marked

      -- and after an accepted merge the row that it has, of kind 1 or 2 and not excluded, is still reserved, not built
      pub repeated-reserved : (merge_of o all).said.number ≡ 0 → (m : ℕ) → m < rows_in o.headers → class_of o.headers m ≡ 2 → Discarded.Discarded o all m
          → state_at (merge_of o all).cells.sections (row_of (Stages.marked o all).work m) ≡ 1
      repeated-reserved ok m h c d = RowStays.row_stays o all ok m h c d.mark

-- ---- the refusal table, "Left as it was"

module _ (o : Object) (a : All) where
  -- 22, 1 and missing work cells (2) leave all, and the link isn't broken by them
  pub head-leaves-all : (head_in o a).number ≢ 0 → ByNumber.HeadLeaves o a
  head-leaves-all = ByNumberLaws.head-leaves o a

  pub broken-refused : a.stage.link.broken ≡ true → merge_of o a ≡ leave a a.stage.link (Err (refused 22 0))
  broken-refused = ByNumberLaws.broken-refused o a

  -- every other refusal breaks the link; "that call's earlier elements stay merged"
  pub refused-breaks : (head_in o a).number ≡ 0 → Stages.number o a ≢ 0
      → merge_of o a ≡ leave (Stages.end o a) (broken_of (Stages.end o a).stage.link) (Err (refused (Stages.number o a) (Stages.end o a).stage.place))
  refused-breaks = ByNumberLaws.refused-breaks o a

  -- an accepted merge doesn't
  pub merged-whole : (head_in o a).number ≡ 0 → Stages.number o a ≡ 0 → ByNumber.MergeLeaves o a
  merged-whole = ByNumberLaws.accepted-stays o a

  -- it leaves every cell as the elements before the refused one left it; on 10 to 14, 16, 19 and 28 that one's name is issued besides
  pub refused-leaves : Stages.number o a ≢ 0 → ByNumber.Leaves o a
  refused-leaves = ByNumberLaws.refused-leaves o a

  -- 3 and 24: names and symbols as before the call
  pub names-left : Stages.number o a ≢ 0 → one_of (Stages.number o a) section_causes ≡ true → ByNumber.NamesLeft o a (Stages.end o a)
  names-left = ByNumberLaws.names-left o a

  -- 3 to 8 and 24: symbols as before the call
  pub symbols-left : Stages.number o a ≢ 0 → one_of (Stages.number o a) early_causes ≡ true → ByNumber.SymbolsLeft o a (Stages.end o a)
  symbols-left = ByNumberLaws.symbols-left o a

  -- inputs and lists that are counted before, and those past the counts that it leaves, are never written
  pub lists-past : Lists.Listed a.inputs a.lists a.stage.link (merge_of o a).cells.inputs (merge_of o a).cells.lists (merge_of o a).cells.stage.link
  lists-past = ListsLaws.merge-left o a

-- ---- symbols of a removed section

module _ (work entries : List ℕ) (i : ℕ) where
  -- "Non-local symbols there become undefined", as the gABI has it of global and weak ones
  pub filter-agrees : (removed_in work (field entries i 4) ≡ true → field entries i 1 ≤ 2) → discarded_at work entries i ≡ false
      → after_discard (removed_in work (field entries i 4)) (sym_of (elf_at entries i)) ≡ stays (sym_of (filtered_at entries work i))
  filter-agrees = FirstKept.filter-agrees work entries i

  -- of bindings above 2 it says nothing. They pass the filter, to be refused (12) where they are added
  pub filter-unsaid : removed_in work (field entries i 4) ≡ true → 2 < field entries i 1
      → (discarded_at work entries i ≡ false) × (after_discard (removed_in work (field entries i 4)) (sym_of (elf_at entries i)) ≡ unsaid)
  filter-unsaid = FirstKept.filter-unsaid work entries i

  -- "the first local gives 8", where the gABI discards it (`local-refused` has the smallest input)
  pub filter-differs : discarded_at work entries i ≡ true → after_discard (removed_in work (field entries i 4)) (sym_of (elf_at entries i)) ≡ gone
  filter-differs = FirstKept.filter-differs work entries i

  -- in the gABI's profile no local is refused, and the gABI's rule is kept: dropped where it discards, and else what it makes of the symbol
  pub dropped-agrees : dropped_at true work entries i ≡ true → after_discard (removed_in work (field entries i 4)) (sym_of (elf_at entries i)) ≡ gone
  dropped-agrees = FirstKept.filter-differs work entries i

  pub profile-agrees : (removed_in work (field entries i 4) ≡ true → field entries i 1 ≤ 2)
      → after_discard (removed_in work (field entries i 4)) (sym_of (elf_at entries i)) ≡ cond (dropped_at true work entries i) gone (stays (sym_of (filtered_at entries work i)))
  profile-agrees = FirstKept.profile-agrees work entries i

pub filter-passes : (work entries : List ℕ) → filter_of true work entries ≡ rows_in entries
filter-passes = FirstKept.filter-passes

-- of a symbol that the gABI discards nothing is left but a cell without an id
pub dropped-alone : (o : Symbols.Object) (s : Symbols.State) (i : ℕ) → s.stage.link.gabi ≡ true → Gone o.work o.entries i → Nothing o s i
dropped-alone = DroppedSymbols.dropped-alone

-- and a section that is built, with a relocation to it, is refused with 19, once its own name is there and has room
pub relocation-to-dropped : (o : Object) (a : All) → (head_in o a).number ≡ 0 → (Stages.reserved o a).reserved.number ≡ 0 → (Stages.added o a).stage.number ≡ 0
    → a.stage.link.gabi ≡ true → (k : ℕ) → k < rows_in (Stages.object o a).entries → Gone (Stages.marked o a).work (Stages.object o a).entries k
    → (n : ℕ) → Names o a k n → (s : Build.State) → Named o a k n s
    → ((section_of (Stages.builder o a) s n program).stage.number ≡ 19) × ((section_of (Stages.builder o a) s n program).stage.place ≡ n)
relocation-to-dropped = DroppedSymbols.relocation-to-dropped

-- ---- 29, once 4 and 5 are passed: exactly at a group that lists a section of the object which a group before it lists too (`lists_again`)

module _ (o : Object) (a : All) (head : (head_in o a).number ≡ 0) (goes : (Stages.reserved o a).reserved.number ≡ 0) (n : ℕ) (low : n ≤ rows_in o.headers)
    (ok : (groups_to o a n).stage.number ≡ 0) where
  pub listed-twice : comdat_at o.headers n ≢ 0 → count_at o.headers n ≢ 0 → lists_again o.headers o.entries o.contents o.image n ≡ true
      → shape_of (reader o a) (groups_to o a n).work n ≡ 29
  listed-twice = ListedTwice.listed-twice o a head goes n low ok

  pub listed-once : lists_again o.headers o.entries o.contents o.image n ≡ false → shape_of (reader o a) (groups_to o a n).work n ≢ 29
  listed-once = ListedTwice.listed-once o a head goes n low ok

-- ---- "Known places where gABI differs": "a local in a dropped group is an error", with its smallest input

-- the gABI discards the symbol
pub local-discarded : after_discard (removed_in removed 1) (sym_of (elf_at one_local 0)) ≡ gone
unfolding after_discard is_local
local-discarded = refl

-- a merge is refused with 8, at that symbol
pub local-refused : (a : All) → a.stage.number ≡ 0 → a.stage.link.gabi ≡ false → a.work ≡ removed → filter_stage (table_of [] one_local [] [] 0 0) a ≡ stop a 8 0
unfolding filter_stage filtered_of filter_of first_bad symbol_ok discarded_at section_after
local-refused a z p w = rw (eq-eqb a.stage.number 0 z, p, w)

-- ---- what the gABI allows or reserves, and a merge refuses

-- every case is answered with its number
pub unsupported : answers cases ≡ numbers cases
unsupported = Unsupported.unsupported
