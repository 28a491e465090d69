-- The terms of acceptance, over links of all calls, but for number and place by the rules, which ExactTerms.antt has. specs/Calls.antt says what the calls are, and what
-- each leaves and answers; specs/Table.antt has document 01's numbers. Over any link: what is answered and left, one outcome, the key of the hash, a group added by
-- itself, what a walk passed by. Then worked links. Then links that began with a new table: after any calls, where lists grow, and after calls that remove nothing.
-- Assumes nothing.
use Rattle.shared_objects.specs.declared.Load.TheVariants.{NotNeeded, Loaded}
use Rattle.gc_sections.specs.Run.{dropped}
use Rattle.link.specs.declared.cause.Refusal.{Refusal}
use Rattle.gc_sections.specs.declared.Dropped.{Dropped}
use Rattle.std.specs.Prelude.{ℕ, suc, ◌+◌, ◌*◌, ◌/◌, ◌<◌, ◌≤◌, ◌≡◌, Bool, true, false, cond, not, ◌||◌, List, [], ◌∷◌, ◌++◌, ◌≢◌, ◌↔◌, get_or, length, Option, Result, None, Some, Ok, Err}
use Rattle.std.proofs.Common.{arith, sym, ap, ◌∙◌, subst, append-nil, eq-eqb, ne_eqb}
use Rattle.gabi.specs.StringTable as Strings
use Rattle.gabi.specs.SymbolTable.{Sym, stv_default, stv_hidden}
use Rattle.gabi.specs.Visibility.{combined}
use Rattle.gabi.specs.Resolution as Resolution
use Rattle.gabi.specs.Archive.{Named, wants, extracts}
use Rattle.gabi.specs.Groups as Gabi
use Rattle.link.specs.declared.Interned.{Interned}
use Rattle.link.specs.declared.SymbolId.{SymbolId}
use Rattle.link.specs.declared.SectionId.{SectionId}
use Rattle.link.specs.Bounds.{not_lent}
use Rattle.link.specs.Judge.{refused, change_of}
use Rattle.link.specs.Said.{number_in}
use Rattle.interner.specs.Calls as Names
use Rattle.interner.specs.Calls.{resolved}
use Rattle.interner.specs.Contract as Interning
use Rattle.interner.specs.Contract.{NewNamesMeets}
use Rattle.interner_laws.specs.Good.{find}
use Rattle.interner_laws.specs.Interns.{Accepted, id}
use Rattle.symbol.specs.declared.Symbol.{Symbol}
use Rattle.symbol.specs.declared.Row.{Row}
use Rattle.symbol.specs.Row.{symbol_at, scope_refused, value_refused}
use Rattle.symbol.specs.RowLaws.{symbol_of}
use Rattle.upcoming_symbol.specs.declared.UpcomingSymbol.{UpcomingSymbol}
use Rattle.upcoming_symbol.specs.Judge.{in_range}
use Rattle.upcoming_symbol.specs.Upcoming.{name_of}
use Rattle.symbol_resolution.specs.Holder.{global_at}
use Rattle.symbols.specs.New.{new_of}
use Rattle.symbols.specs.Add.{file_of, file_issued}
use Rattle.symbols.specs.Calls as Symbols
use Rattle.symbols.specs.Lookup as Lookup
use Rattle.symbols.specs.Lookup.{not_found}
use Rattle.elf_object.specs.Rows.{rows_in, is_loaded, elf_at, comdat_at, count_at}
use Rattle.elf_object.specs.Judge as Elf
use Rattle.sections.specs.Rows.{state_at}
use Rattle.merge_sections.specs.Reserve.{class_of}
use Rattle.section_groups.specs.Group as Group
use Rattle.section_groups.specs.Group.{mark_group_of, mark_all, group_section_of}
use Rattle.section_groups.specs.AddGroup as AddGroup
use Rattle.merge_stages.specs.Stages as Stages
use Rattle.merge_elf.specs.Merge as Merge
use Rattle.shared_objects.specs.Load as Shared
use Rattle.shared_objects.specs.Need.{input_kind_at}
use Rattle.load_laws.specs.Needed.{library_kind, Needed}
use Rattle.load_laws.proofs.Unneeded as Unneeded
use Rattle.archive_index.specs.Archives.{Archives, entries_in, name_in, key_in}
use Rattle.archive_walk.specs.declared.Offer.{Offer}
use Rattle.archive_walk.specs.declared.Walk.{Walk}
use Rattle.archive_walk.specs.Walk as Archive
use Rattle.object_requirement.specs.Matches as Matches
use Rattle.archive_walk.specs.Look.{Table, undefined_name, tied_name}
use Rattle.archive_walk.specs.Names.{required_of}
use Rattle.archive_laws.proofs.Profiles.{tied-old}
use Rattle.archive_laws.specs.Rounds.{among, members}
use Rattle.archive_laws.specs.Steps.{Fine}
use Rattle.archive_laws.specs.Runs.{Run, history, start_run}
use Rattle.archive_laws.specs.Walked.{in_index, queue_in, Walked}
use Rattle.archive_laws.proofs.Terms.{walked}
use Rattle.archive_laws.specs.PassList.{Over, offered, without, first_seen, tied_members}
use Rattle.gc_laws.specs.Collected as Collected
use Rattle.gc_laws.proofs.Terms as CollectionLaws
use Rattle.gc_laws.specs.Reached as Roots
use Rattle.symbol_laws.specs.ContentWords.{shared_entry}
use Rattle.symbol_laws.proofs.Standing.{hidden-joined}
use Rattle.symbol_laws.specs.Demand.{HeldBy}
use Rattle.symbol_laws.specs.Rank.{ranked, first_by_rank, joined_in}
use Rattle.symbol.specs.Row.{row_at}
use Rattle.symbol_laws.specs.History.{opened, Entry, only, rows, store, upcoming, table}
use Rattle.symbol_laws.proofs.Start.{new-inv}
use Rattle.symbol_laws.specs.Held.{Inv}
use Rattle.symbol_laws.proofs.BelowLemmas.{inv-below}
use Rattle.symbol_laws.specs.Standing.{SameButHidden, hidden_by}
use Rattle.symbol_laws.proofs.Profile.{new-profile}
use Rattle.symbol_laws.specs.Demand as Demand
use Rattle.symbol_laws.proofs.Demand as DemandLaws
use Rattle.symbol_laws.specs.Within as Within
use Rattle.symbol_laws.proofs.Within as WithinLaws
use Rattle.symbol_laws.proofs.Within.{Fits}
use Rattle.symbol_laws.specs.Writes as Writes
use Rattle.symbol_laws.proofs.WritesLemmas as WritesLaws
use Rattle.symbol_laws.specs.Gabi.{Means, AllMean, sym_of, sym_of_row, syms_of}
use Rattle.symbol_laws.proofs.Gabi.{means-own, all-mean-own}
use Rattle.symbol_laws.proofs.Duplicate as Duplicate
use Rattle.symbol_laws.proofs.HiddenLemmas as HiddenLaws
use Rattle.symbol_laws.specs.Hidden.{is_hidden, some_hidden, not_passed_on}
use Rattle.symbol_laws.specs.ObjectWords.{sections_in, program, uninitialized, loaded_as}
use Rattle.symbol_laws.specs.ObjectWords.{entries_in as object_entries}
use Rattle.symbol_laws.specs.Agreement as Agreement
use Rattle.symbol_laws.proofs.Agreement as AgreementLaws
use Rattle.extraction_laws.specs.Member.{member_of}
use Rattle.extraction_laws.specs.Taken as Taken
use Rattle.extraction_laws.specs.Taken.{taken, weak_offers, wanted_names}
use Rattle.extraction_laws.specs.Wanted.{weak_only}
use Rattle.extraction_laws.specs.MemberWords.{symbols_of}
use Rattle.extraction_laws.specs.Answer.{says, admitted}
use Rattle.extraction_laws.proofs.Admission as Admission
use Rattle.extraction_laws.specs.Admission.{bears_one, defines_one}
use Rattle.merge_laws.specs.Stops as Merging
use Rattle.merge_laws.specs.Stops.{object, groups_to}
use Rattle.merge_laws.specs.ByNumber as ByNumber
use Rattle.merge_laws.specs.Marked.{Marked}
use Rattle.merge_laws.proofs.MarkedLemmas.{new-marked}
use Rattle.merge_laws.proofs.FirstKept as FirstKept
use Rattle.merge_laws.specs.FirstKept.{reader, met_to, signature, listed}
use Rattle.merge_laws.specs.Discarded as Discarded
use Rattle.merge_laws.proofs.Discarded as DiscardedLaws
use Rattle.merge_laws.specs.Accepted as Merged
use Rattle.merge_laws.proofs.Accepted as MergedLaws
use Rattle.merge_laws.specs.Placed.{row_of}
use Rattle.merge_laws.proofs.RowStays as RowStays
use Rattle.merge_laws.proofs.Terms as MergeTerms
use Rattle.merge_laws.specs.MergeWords.{named_by, own_signatures, is_removed}
use Rattle.merge_laws.specs.MergeWords as ObjectWords
use Rattle.symbol.specs.Hidden.{pass_hidden}
use Rattle.symbol_resolution.specs.Apply as Apply
use Rattle.load_laws.specs.Accepted as LoadRows
use Rattle.load_laws.proofs.Terms as LoadTerms
use Rattle.merge_laws.proofs.Lookups as Lookups
use Rattle.merge_laws.proofs.Lookups.{new-lists}
use Rattle.merge_laws.specs.Past as Past
use Rattle.merge_laws.specs.Calls.{Linked, linked, all_in}
use Rattle.merge_laws.specs.SymbolDuplicates as InMerge
use Rattle.merge_laws.proofs.SymbolDuplicates as InMergeLaws
use Rattle.load_laws.specs.SymbolDuplicates as InLoad
use Rattle.load_laws.proofs.SymbolDuplicates as InLoadLaws
use Rattle.plain_laws.specs.Agrees.{Agrees}
use Rattle.plain_laws.proofs.Terms as Plain
use Rattle.plain_laws.specs.BuiltRows.{built_rows}
use Rattle.link_laws.specs.Calls.{Call, intern, resolve, add, remove, get, get_global, section_symbol, add_group, merge, merge_file, load, archive_start, archive_next, archive_shadowed, matches, would_define, collect, plain_collect, view_in, group_in, library_in, lists_in, call_left, call_refusal, call_number, call_next, call_notes, run_calls, log_calls, Removes, RemovesNothing, file_head, add_list, earlier}
use Rattle.link_laws.proofs.FileCall as FileCall
use Rattle.elf_laws.specs.Object as ElfFile
use Rattle.elf_laws.specs.Object.{laid}
use Rattle.merge_file.specs.MergeFile.{file_left, unread}
use Rattle.link_laws.specs.Table.{call_numbers}
use Rattle.link_laws.proofs.Numbers as Numbers
use Rattle.link_laws.proofs.Leaves as LeavesLaws
use Rattle.link_laws.specs.Leaves.{by_elements}
use Rattle.link_laws.proofs.Broken as Broken
use Rattle.link_laws.specs.Broken.{changes}
use Rattle.link_laws.proofs.ArchiveLeaves as ArchiveLeaves
use Rattle.link_laws.proofs.NewTable as NewTable
use Rattle.link_laws.specs.NewTable.{unopened}
use Rattle.link_laws.proofs.AddCall as AddCall
use Rattle.link_laws.proofs.CallDuplicates as CallDuplicates
use Rattle.link_laws.specs.CallDuplicates.{IsDuplicate, Judges}
use Rattle.link_laws.specs.SectionCount.{Sectioned}
use Rattle.link_laws.proofs.SectionCount.{calls-sectioned, new-sectioned, sections-judged}
use Rattle.link_laws.specs.GroupAlone as GroupAlone
use Rattle.link_laws.specs.GroupRules.{is_noted, lists_again}
use Rattle.link_laws.proofs.GroupAlone as GroupAloneLaws
use Rattle.link_laws.specs.Elements as Elements
use Rattle.link_laws.proofs.Elements as ElementsLaws
use Rattle.link_laws.proofs.Starred as Starred
use Rattle.link_laws.specs.Starred.{head_refusal}
use Rattle.link_laws.proofs.Places as Places
use Rattle.link_laws.specs.FirstRow.{First, BadRow}
use Rattle.link_laws.proofs.CallPlaces as CallPlaces
use Rattle.link_laws.specs.CallPlaces.{has_bytes, not_removed, collect_lent}
use Rattle.link_laws.proofs.Placeless as Placeless
use Rattle.link_laws.specs.RowPlaces as RowPlaces
use Rattle.link_laws.proofs.RowPlaces as RowPlacesLaws
use Rattle.link_laws.specs.RowPlaces.{library_lent}
use Rattle.link_laws.specs.CutShort as CutShort
use Rattle.link_laws.proofs.CutShort as CutShortLaws
use Rattle.link_laws.proofs.CallContracts as ContractsLaws
use Rattle.link_laws.specs.CallContracts.{Exit, Meets, seen}
use Rattle.link_laws.proofs.OneOutcome as OneOutcome
use Rattle.symbols.specs.Contract.{NewExit, NewMeets}
use Rattle.strings.specs.Contract.{StringExit, StringMeets, EndedMeets}
use Rattle.section_groups.specs.Contract.{DiscardedMeets, FilterMeets, SectionAfterMeets}
use Rattle.link_laws.proofs.KeyFree as KeyFree
use Rattle.link_laws.specs.KeyFree.{Alike, Same, SameAnswers}
use Rattle.link_laws.proofs.Idle as Idle
use Rattle.link_laws.proofs.CallPast as CallPast
use Rattle.link_laws.specs.Lists as Lists
use Rattle.link_laws.proofs.Lists as ListsLaws
use Rattle.link_laws.proofs.Kept as Kept
use Rattle.link_laws.specs.Kept.{signatures, meets_groups, Reached}
use Rattle.link_laws.proofs.Kept.{calls-keep, calls-marked, calls-below, Lasting, lasting-within, lasting-on, reached-within, reached-on}
use Rattle.link_laws.proofs.NamesStay as NamesStay
use Rattle.link_laws.specs.Libraries as Libraries
use Rattle.link_laws.proofs.Libraries as LibrariesLaws
use Rattle.link_laws.proofs.LibraryLoads as LibraryLoadsLaws
use Rattle.link_laws.specs.LibraryLoads.{LoadedAt}
use Rattle.link_laws.proofs.LibraryLoads.{new-inputs}
use Rattle.link_laws.proofs.Removal.{Ready}
use Rattle.link_laws.proofs.LookedUp as LookedUp
use Rattle.link_laws.proofs.LookedUp.{calls-later, calls-whole, inv-ready, new-whole}
use Rattle.link_laws.specs.LocalRows.{Shown, Counted}
use Rattle.link_laws.proofs.LocalRows.{calls-onto, calls-stay, inv-shown}
use Rattle.link_laws.proofs.SectionSymbols as SectionSymbolsLaws
use Rattle.link_laws.specs.SectionSymbols.{SectionRow, LocalSection, LastOf}
use Rattle.link_laws.specs.Growth.{Turn, Quiet, run_turns, log_turns}
use Rattle.link_laws.proofs.Growth.{Some as SomeTurns, turns-reached}
use Rattle.link_laws.proofs.NeededIn as NeededIn
use Rattle.link_laws.specs.NeededIn.{NeededIn}
use Rattle.link_laws.proofs.Walks as WalksLaws
use Rattle.link_laws.specs.Walks.{next_in, with_walk, walk_after, tables_at, joined}
use Rattle.link_laws.specs.WalkIn as WalkIn
use Rattle.link_laws.proofs.WalkIn as WalkInLaws
use Rattle.link_laws.specs.Shadowed.{knows, strongly_defined, told_by, told, Settled, those_below, Tells}
use Rattle.link_laws.proofs.Shadowed as ShadowedLaws
use Rattle.link_laws.specs.Figures.{title_of, FiguresAre, NoneLost}
use Rattle.link_laws.proofs.Figures as FiguresLaws
use Rattle.link_laws.specs.Untaken.{defines, would, held_id, as_added, TellsPairs}
use Rattle.link_laws.proofs.Untaken as UntakenLaws
use Rattle.link_laws.proofs.Taking as Taking
use Rattle.link_laws.specs.WorkedLinks.{WorkedLinks}
use Rattle.link_laws.proofs.WorkedLinks as Worked
use Rattle.merge_laws.specs.Origin.{from_objects}
use Rattle.merge_laws.proofs.Origin.{hidden-objects, only-shown}
use Rattle.link_laws.proofs.Profile.{call-profile, calls-profile, calls-shown, turns-profile, turns-shown}
use Rattle.link_laws.specs.Undefined as Undefined
use Rattle.link_laws.proofs.Undefined as UndefinedLaws
use Rattle.link_laws.specs.Undefined.{is_undefined_row, weak_references}
use Rattle.link_laws.proofs.Ties as Ties
use Rattle.link_laws.proofs.Ties.{OfName}
use Rattle.link_laws.specs.Extraction as Extraction
use Rattle.link_laws.proofs.Extraction as ExtractionLaws
use Rattle.link_laws.specs.BuiltSections.{SparesAll}
use Rattle.link_laws.specs.ObjectSections as ObjectSections
use Rattle.link_laws.proofs.ObjectSections as ObjectSectionsLaws
use Rattle.link_laws.specs.ObjectSections.{section_id}
use Rattle.link_laws.proofs.GivenRows as GivenRows
use Rattle.link_laws.specs.GivenRows.{Stands, AllStand}
use Rattle.link_laws.proofs.Contents as Contents
use Rattle.link_laws.specs.Contents.{FromCalls}
use Rattle.link_laws.specs.EntryNames as EntryNames
use Rattle.link_laws.proofs.EntryNames as EntryNamesLaws
use Rattle.link_laws.specs.OwnEntries.{entry_of, AllFrom, entries_of}
use Rattle.link_laws.proofs.OwnEntries.{all-mean, all-show}
use Rattle.link_laws.proofs.Admitted as Admitted
use Rattle.link_laws.specs.Admitted.{answer_in}
use Rattle.merge_laws.specs.Table.{one_of, section_causes, group_causes, early_causes, unstarred, starred, placeless, refusals}
use Rattle.link_laws.specs.OneByOne as OneByOne
use Rattle.link_laws.proofs.OneByOne as OneByOneLaws
use Rattle.add_list.specs.AddList.{items_of, list_left}

-- ---- 1. "The answer to every call is a result or, exactly where document 01's rules in their order give it, one of the refusals 1 to 25"; later calls and
-- rules add 26 to 31

-- which, and at which place, is what the definition gives that the call's contract cites; it is 0, a result, or a number that document 01 gives the call
pub answers : (k : Call) (s : Linked) → one_of (call_number k s) (0 ∷ call_numbers k) ≡ true
answers = Numbers.numbers

pub refusals-only : (k : Call) (s : Linked) → call_number k s ≢ 0 → one_of (call_number k s) refusals ≡ true
refusals-only = Numbers.refusals-only

pub new-answers : (key : ℕ) (gabi : Bool) (bytes names symbols sections : List ℕ) → one_of (number_in (new_of key gabi bytes names symbols sections).said) (0 ∷ 2 ∷ []) ≡ true
new-answers = Numbers.new-numbers

-- "Each returns number and place (symbol, section or row; else 0, as for a direct add but 21)"
pub add-place : (conversion : List ℕ) (u : UpcomingSymbol) (s : Linked) → call_number (add conversion u) s ≢ 21 → (call_refusal (add conversion u) s).place ≡ 0
add-place = Places.add-place

-- the table's column "Returned": 22, 23, 25, and document 02's 26 and 30, at 0
pub zero-places : (k : Call) (s : Linked) → one_of (call_number k s) placeless ≡ true → (call_refusal k s).place ≡ 0
zero-places = Placeless.zero-places

-- 2 at 0 where no element is met: an intern, a start over indexes, a collection, a merge's work cells, a load's marks; a new
-- table's is in new-leaves
pub intern-place : (x : List ℕ) (s : Linked) → call_number (intern x) s ≢ 1 → (call_refusal (intern x) s).place ≡ 0
intern-place = CallPlaces.intern-place

pub start-place : (key : ℕ) (archives : Archives) (cells : List ℕ) (s : Linked) → call_number (archive_start key archives cells) s ≡ 2 → (call_refusal (archive_start key archives cells) s).place ≡ 0
start-place = CallPlaces.start-place

-- 20 at the first empty index
pub start-empty : (key : ℕ) (archives : Archives) (cells : List ℕ) (s : Linked) → call_number (archive_start key archives cells) s ≡ 20
    → First (has_bytes archives) (length archives.ends) (call_refusal (archive_start key archives cells) s).place
start-empty = CallPlaces.start-empty

pub collect-work-place : (marks : List ℕ) (entry : Option SymbolId) (work : List ℕ) (s : Linked) → call_number (collect marks entry work) s ≡ 2
    → (call_refusal (collect marks entry work) s).place ≡ 0
collect-work-place = CallPlaces.collect-work-place

pub head-two-place : (k : Call) (s : Linked) → (head_refusal k s).number ≡ 2 → (call_refusal k s).place ≡ 0
head-two-place = Placeless.head-two-place

-- "21's id: the name's for an add or name lookup", and of an add the file's where that alone isn't issued
pub add-name-place : (conversion : List ℕ) (u : UpcomingSymbol) (s : Linked) → call_number (add conversion u) s ≡ 21
    → ((name_of u).0 < s.table.link.names → file_issued s.table.link (file_of u) ≡ true) → (call_refusal (add conversion u) s).place ≡ (name_of u).0
add-name-place = CallPlaces.add-name-place

pub add-file-place : (conversion : List ℕ) (u : UpcomingSymbol) (s : Linked) (id : Interned) → call_number (add conversion u) s ≡ 21
    → (name_of u).0 < s.table.link.names → file_of u ≡ Some id → s.table.link.names ≤ id.0 → (call_refusal (add conversion u) s).place ≡ id.0
add-file-place = CallPlaces.add-file-place

pub global-place : (name : Interned) (s : Linked) → call_number (get_global name) s ≡ 21 → (call_refusal (get_global name) s).place ≡ name.0
global-place = CallPlaces.global-place

-- "the symbol's for `get` and `remove`"
pub get-place : (id : SymbolId) (s : Linked) → call_number (get id) s ≡ 21 → (call_refusal (get id) s).place ≡ id.0
get-place = CallPlaces.get-place

pub remove-place : (id : SymbolId) (s : Linked) → call_number (remove id) s ≡ 21 → (call_refusal (remove id) s).place ≡ id.0
remove-place = CallPlaces.remove-place

-- "the section's for collection": the lowest that is reached but not built
pub collect-section-place : (marks : List ℕ) (entry : Option SymbolId) (work : List ℕ) (s : Linked) → call_number (collect marks entry work) s ≡ 21
    → Collected.Lowest s.table.link (lists_in s marks) s.table.symbols s.table.sections entry work (call_refusal (collect marks entry work) s).place
collect-section-place = CallPlaces.collect-section-place

-- "the entry's position for a pass": of the walk's entries the first whose name's row was removed
pub pass-place : (archives : Archives) (cells : List ℕ) (w : Walk) (s : Linked) → call_number (archive_next archives cells w) s ≡ 21
    → First (not_removed archives.bytes cells (view_in s.table)) w.entries (call_refusal (archive_next archives cells w) s).place
pass-place = CallPlaces.pass-place

-- 4 to 7 of a group that is added by itself: its section; past the head, 2 too
pub group-place : (o : Group.Object) (work : List ℕ) (n : ℕ) (s : Linked) → one_of (call_number (add_group o work n) s) group_causes ≡ true
    → (call_refusal (add_group o work n) s).place ≡ n
group-place = CallPlaces.group-place

pub group-element-place : (o : Group.Object) (work : List ℕ) (n : ℕ) (s : Linked) → (AddGroup.head_in o (group_in s.table work) n).number ≡ 0
    → call_number (add_group o work n) s ≢ 0 → (call_refusal (add_group o work n) s).place ≡ n
group-element-place = CallPlaces.group-element-place

-- 1 at the "first such row", where the link's own counts pass: of an object's sections, else its symbols, else a group's section that is none; of a
-- library's symbols, else 0 for its soname, else of its dependencies; "mark list cut short" at the first symbol without a mark
pub merge-row : (o : Stages.Object) (work ids : List ℕ) (s : Linked) → (change_of s.table.link (Merge.lent (all_in s work ids))).number ≡ 0
    → call_number (merge o work ids) s ≡ 1 → RowPlaces.BadObject o (call_refusal (merge o work ids) s).place
merge-row = RowPlacesLaws.merge-row

pub group-row : (o : Group.Object) (work : List ℕ) (n : ℕ) (s : Linked) → (change_of s.table.link (AddGroup.lent (group_in s.table work))).number ≡ 0
    → call_number (add_group o work n) s ≡ 1 → RowPlaces.BadGroup o n (call_refusal (add_group o work n) s).place
group-row o work n = RowPlacesLaws.group-row o n work

pub matches-row : (headers entries contents file index cells : List ℕ) (w : Walk) (e : ℕ) (s : Linked)
    → (Elf.judge_of headers entries (length contents) (length file)).number ≢ 0
    → BadRow headers entries (length contents) (length file) (call_refusal (matches headers entries contents file index cells w e) s).place
matches-row = RowPlacesLaws.matches-row

-- what admission answers where it isn't refused, over any link, walk and entry, also where the indexes lie. The old profile: "some symbol of binding 1,
-- defined or not, bears a required name". The gABI's: "a weak or global definition, and nothing else, admits one"
module _ (s : Linked) (headers entries contents file index cells : List ℕ) (w : Walk) (e : ℕ)
    (ranged : (Elf.judge_of headers entries (length contents) (length file)).number ≡ 0) (whole : w.length ≤ length index) (rowed : w.entries ≤ length cells / 8)
    (below : e < w.entries) where
  pub matches-references : s.table.link.gabi ≡ false
      → call_left (matches headers entries contents file index cells w e) s ≡ says (bears_one (required_of index cells w e) (symbols_of headers entries file))
  matches-references = Admission.admits-references s.table.link headers entries contents file index cells w e ranged whole rowed below

  pub matches-definitions : s.table.link.gabi ≡ true
      → call_left (matches headers entries contents file index cells w e) s ≡ says (defines_one (required_of index cells w e) (symbols_of headers entries file))
  matches-definitions = Admission.admits-definitions s.table.link headers entries contents file index cells w e ranged whole rowed below

pub load_row : (o : Shared.Input) (marks : List ℕ) (s : Linked) → (change_of s.table.link (library_lent s)).number ≡ 0 → call_number (load o marks) s ≡ 1
    → RowPlaces.BadLibrary o (call_refusal (load o marks) s).place
load_row = RowPlacesLaws.load_row

pub collect-marks-place : (marks : List ℕ) (entry : Option SymbolId) (work : List ℕ) (s : Linked) → (change_of s.table.link (collect_lent s)).number ≡ 0
    → call_number (collect marks entry work) s ≡ 1
    → (length marks < s.table.link.symbols) × ((call_refusal (collect marks entry work) s).place ≡ length marks)
collect-marks-place = CallPlaces.collect-marks-place

-- else the link's own refusal
pub collect-link-place : (marks : List ℕ) (entry : Option SymbolId) (work : List ℕ) (s : Linked) → (change_of s.table.link (collect_lent s)).number ≢ 0
    → call_refusal (collect marks entry work) s ≡ change_of s.table.link (collect_lent s)
collect-link-place = CallPlaces.collect-link-place

-- a seventeenth index, an end below the one before it or past the slice; and an index "of 1 to 3 bytes gives 1 at 0, a longer one at the first entry whose
-- offset, else whose name, is cut short", where entries are counted over all indexes
pub start-row : (key : ℕ) (archives : Archives) (cells : List ℕ) (s : Linked) → call_number (archive_start key archives cells) s ≡ 1
    → CutShort.CutShort archives (call_refusal (archive_start key archives cells) s).place
start-row key archives cells s = CutShortLaws.start-row archives key cells s

-- "and leaves behind what that table says": a refused call leaves every row, name, mark and count of the link, and a list of adds those of the adds
-- before the refused one (`earlier` is the link as it was for every other call); a merge and a load may leave "that call's earlier elements"
pub refused-leaves : (k : Call) (s : Linked) → by_elements k ≡ false → call_number k s ≢ 0 → call_next k s ≡ earlier k s
refused-leaves = LeavesLaws.refused-leaves

-- a new table leaves every lent cell, and a link without rows
pub new-leaves : (key : ℕ) (gabi : Bool) (bytes names symbols sections : List ℕ) → number_in (new_of key gabi bytes names symbols sections).said ≢ 0
    → new_of key gabi bytes names symbols sections ≡ unopened key gabi bytes names symbols sections
new-leaves = NewTable.new-leaves

-- and the marks of an object, where it is a group; the cells of an archive, where it is a start; the walk, where it is a call for the next member; the cells for
-- the entries that are told
pub group-leaves : (o : Group.Object) (work : List ℕ) (n : ℕ) (s : Linked) → call_number (add_group o work n) s ≢ 0 → (call_left (add_group o work n) s).work ≡ work
group-leaves o work n s u = (LeavesLaws.group-refused o s.table work n u).1

pub start-leaves : (key : ℕ) (archives : Archives) (cells : List ℕ) (s : Linked) → call_number (archive_start key archives cells) s ≢ 0 → (call_left (archive_start key archives cells) s).cells ≡ cells
start-leaves key archives cells s = ArchiveLeaves.start-leaves key archives cells

pub walk-leaves : (archives : Archives) (cells : List ℕ) (w : Walk) (s : Linked) → call_number (archive_next archives cells w) s ≢ 0
    → ((call_left (archive_next archives cells w) s).cells ≡ cells) × ((call_left (archive_next archives cells w) s).moved.walk ≡ w)
walk-leaves archives cells w s = ArchiveLeaves.walk-leaves archives cells w _

pub shadowed-leaves : (index rows : List ℕ) (w : Walk) (cells : List ℕ) (s : Linked) → call_number (archive_shadowed index rows w cells) s ≢ 0
    → (call_left (archive_shadowed index rows w cells) s).cells ≡ cells
shadowed-leaves index rows w cells s = ArchiveLeaves.shadowed-leaves index rows w _ cells

pub untaken-leaves : (headers entries contents file cells : List ℕ) (s : Linked) → call_number (would_define headers entries contents file cells) s ≢ 0
    → (call_left (would_define headers entries contents file cells) s).cells ≡ cells
untaken-leaves headers entries contents file cells s = ArchiveLeaves.would-leaves headers entries contents file _ cells

-- 1, 15, 20, 22, 23, 25, 26, 27, 30 and 31 leave "all", whichever call gives them, but what the earlier adds of a list made
pub leaves_all : (k : Call) (s : Linked) → one_of (call_number k s) unstarred ≡ true → call_next k s ≡ earlier k s
leaves_all = Starred.leaves_all

-- request 2026-05: a list of adds is the adds one by one, stopped at the first that is refused: the link, the log, number and place, the position, the ids.
-- "A broken link gives 22 to any list, then fewer cells than adds give 2, both at position 0, changing nothing"
pub one_by_one : (conversion adds ids : List ℕ) (s : Linked) → s.table.link.broken ≡ false → length (items_of adds) ≤ length ids → OneByOne.OneByOne conversion adds ids s
one_by_one = OneByOneLaws.one_by_one

pub list-broken : (conversion adds ids : List ℕ) (s : Linked) → s.table.link.broken ≡ true
    → call_left (add_list conversion adds ids) s ≡ list_left (table s.table) ids (refused 22 0) 0
list-broken = OneByOneLaws.list-broken

pub list-short : (conversion adds ids : List ℕ) (s : Linked) → s.table.link.broken ≡ false → length ids < length (items_of adds)
    → call_left (add_list conversion adds ids) s ≡ list_left (table s.table) ids (refused 2 0) 0
list-short = OneByOneLaws.list-short

-- a merge or a load that is refused at its head leaves all: 22, 1, 25, missing work cells or marks
pub merge-head-leaves : (o : Stages.Object) (work ids : List ℕ) (s : Linked) → (Merge.head_in o (all_in s work ids)).number ≢ 0 → call_next (merge o work ids) s ≡ s
merge-head-leaves = LeavesLaws.merge-head

pub load-head-leaves : (o : Shared.Input) (marks : List ℕ) (s : Linked) → (Shared.head_in o (library_in s marks)).number ≢ 0 → call_next (load o marks) s ≡ s
load-head-leaves = LeavesLaws.load-head

-- document 02, 2026-01: "A file read and merged must equal its rows merged by hand", answer, every cell and every count; the cells lent for its rows hold
-- them, one after the other
pub file-is-rows : (file cells work ids : List ℕ) (s : Linked) → (file_head file cells s).number ≡ 0
    → call_left (merge_file file cells work ids) s ≡ file_left (laid (ElfFile.rows_of file) cells) (call_left (merge (ElfFile.rows_of file) work ids) s)
file-is-rows file cells work ids s z = FileCall.left-read file cells work ids s (eq-eqb _ _ z)

-- 26, 27 and too few cells for the rows "all leave everything, the link unbroken", the cells for the rows too; so does 22
pub file-unread-leaves : (file cells work ids : List ℕ) (s : Linked) → (file_head file cells s).number ≢ 0
    → (call_left (merge_file file cells work ids) s ≡ unread cells (all_in s work ids) (file_head file cells s)) × (call_next (merge_file file cells work ids) s ≡ s)
file-unread-leaves file cells work ids s u =
    let f = ne_eqb _ _ u in (FileCall.left-unread file cells work ids s f, FileCall.next-unread file cells work ids s f)

pub not-needed-leaves : (o : Shared.Input) (marks : List ℕ) (s : Linked) → (call_left (load o marks) s).answer ≡ Ok NotNeeded → call_next (load o marks) s ≡ s
not-needed-leaves = LeavesLaws.load-unneeded

-- otherwise it is refused at one of its elements, with that one's place: "that call's earlier elements stay merged", all is left at it, on 10 to 14, 16,
-- 19 and 28 but for its name, and the link is broken
pub merge-leaves : (o : Stages.Object) (work ids : List ℕ) (s : Linked) → call_number (merge o work ids) s ≢ 0 → Elements.MergeLeft o work ids s
merge-leaves = ElementsLaws.merge-leaves

pub load-leaves : (o : Shared.Input) (marks : List ℕ) (s : Linked) → call_number (load o marks) s ≢ 0 → Elements.LoadLeft o marks s
load-leaves = ElementsLaws.load-leaves

-- 3 and 24: "names, symbols" as before the call
pub merge-names-left : (o : Stages.Object) (work ids : List ℕ) (s : Linked) → one_of (call_number (merge o work ids) s) section_causes ≡ true
    → ByNumber.NamesLeft o (all_in s work ids) (call_left (merge o work ids) s).cells
merge-names-left = ElementsLaws.names-left

-- 3 to 8 and 24: symbols; 8 leaves the "table"
pub merge-symbols-left : (o : Stages.Object) (work ids : List ℕ) (s : Linked) → one_of (call_number (merge o work ids) s) early_causes ≡ true
    → ByNumber.SymbolsLeft o (all_in s work ids) (call_left (merge o work ids) s).cells
merge-symbols-left = ElementsLaws.symbols-left

-- "Those marked * break the link when met inside an object or shared object"
pub starred-breaks : (k : Call) (s : Linked) → by_elements k ≡ true
    → one_of (call_number k s) starred ≡ true
    → (call_next k s).table.link.broken ≡ true
starred-breaks = Starred.starred-breaks

-- 2 too, but where the head gives it
pub two-breaks : (k : Call) (s : Linked) → by_elements k ≡ true → call_number k s ≡ 2 → (head_refusal k s).number ≢ 2 → (call_next k s).table.link.broken ≡ true
two-breaks = Starred.two-breaks

pub merge-breaks : (o : Stages.Object) (work ids : List ℕ) (s : Linked) → (Merge.head_in o (all_in s work ids)).number ≡ 0 → call_number (merge o work ids) s ≢ 0
    → (call_next (merge o work ids) s).table.link.broken ≡ true
merge-breaks = LeavesLaws.merge-breaks

pub load-breaks : (o : Shared.Input) (marks : List ℕ) (s : Linked) → (Shared.head_in o (library_in s marks)).number ≡ 0 → call_number (load o marks) s ≢ 0
    → (call_next (load o marks) s).table.link.broken ≡ true
load-breaks = LeavesLaws.load-breaks

-- nothing else breaks it
pub breaks-only : (k : Call) (s : Linked) → s.table.link.broken ≡ false → (call_next k s).table.link.broken ≡ true
    → (by_elements k ≡ true)
    × (one_of (call_number k s) (2 ∷ starred) ≡ true)
breaks-only = Starred.breaks-only

-- "changing call on a broken link": 22 at place 0, first of all
pub broken-refused : (s : Linked) → s.table.link.broken ≡ true → (k : Call) → changes k ≡ true → call_refusal k s ≡ refused 22 0
broken-refused = Broken.broken-refused

-- and no other call is answered so
pub broken-only : (k : Call) (s : Linked) → call_number k s ≡ 22 → (changes k ≡ true) × (s.table.link.broken ≡ true)
broken-only = Placeless.broken-only

-- so a broken link stays as it is
pub broken-stays : (ks : List Call) (s : Linked) → s.table.link.broken ≡ true → run_calls ks s ≡ s
broken-stays = Starred.broken-stays

-- which of them, exactly: ExactTerms.antt

-- ---- a. "A public call's result and every lent cell after it, refusal or not, follow from its inputs alone"

-- what a caller sees of a call are its result and every cell lent to be written (Exit); its contract is Meets, made of the predicates that stand in the `ensures`. Two
-- outcomes that meet it are equal: of every call on a link, of a new table, of a string lookup and of the filter of a symbol table
pub one-outcome : (k : Call) (s : Linked) (x y : Exit k) → Meets k s x → Meets k s y → x ≡ y
one-outcome = ContractsLaws.one-outcome

pub new-one-outcome : (key : ℕ) (gabi : Bool) (bytes names symbols sections : List ℕ) (x y : NewExit) → NewMeets key gabi bytes names symbols sections x → NewMeets key gabi bytes names symbols sections y
    → x ≡ y
new-one-outcome = ContractsLaws.new-one-outcome

-- of the names of a new table, which are part of it
pub new-names-one-outcome : (key : ℕ) (bytes names : List ℕ) (x y : Interning.Exit) → NewNamesMeets key bytes names x → NewNamesMeets key bytes names y → x ≡ y
new-names-one-outcome = ContractsLaws.new-names-one-outcome

pub string-one-outcome : (table : List ℕ) (offset : ℕ) (x y : StringExit) → StringMeets table offset x → StringMeets table offset y → x ≡ y
string-one-outcome = ContractsLaws.string-one-outcome

pub ended-one-outcome : (bytes : List ℕ) (offset : ℕ) (x y : StringExit) → EndedMeets bytes offset x → EndedMeets bytes offset y → x ≡ y
ended-one-outcome = ContractsLaws.ended-one-outcome

pub filter-one-outcome : (gabi : Bool) (work entries : List ℕ) (x y : ℕ) → FilterMeets gabi work entries x → FilterMeets gabi work entries y → x ≡ y
filter-one-outcome = ContractsLaws.filter-one-outcome

pub discarded-one-outcome : (work entries : List ℕ) (i : ℕ) (x y : Bool) → DiscardedMeets work entries i x → DiscardedMeets work entries i y → x ≡ y
discarded-one-outcome = ContractsLaws.discarded-one-outcome

pub section-after-one-outcome : (work : List ℕ) (section x y : ℕ) → SectionAfterMeets work section x → SectionAfterMeets work section y → x ≡ y
section-after-one-outcome = ContractsLaws.section-after-one-outcome

-- so all that is proved of `call_left`, the call's definition, is proved of every exit that meets the contract
pub meets-left : (k : Call) (s : Linked) (e : Exit k) → Meets k s e → seen k e ≡ call_left k s
meets-left = ContractsLaws.meets-left

-- where a contract or a definition names what an answer says (number, place and values, in document 01's terms), that is the whole answer: of interns; of new tables, adds
-- and removes; of lookups; of a section's symbol; of a walk's start; of a call for the next member; of admission
pub names-answer : (a b : Result Interned Refusal) → Names.said a ≡ Names.said b → a ≡ b
names-answer = OneOutcome.names-answer

pub symbols-answer : (a b : Result SymbolId Refusal) → Symbols.said a ≡ Symbols.said b → a ≡ b
symbols-answer = OneOutcome.symbols-answer

pub found-answer : (a b : Result Symbol Refusal) → Lookup.said a ≡ Lookup.said b → a ≡ b
found-answer = OneOutcome.found-answer

pub section-symbol-answer : (a b : Option SymbolId) → Lookup.section_symbol_said a ≡ Lookup.section_symbol_said b → a ≡ b
section-symbol-answer = OneOutcome.section-symbol-answer

pub begun-answer : (a b : Result ℕ Refusal) → Archive.begun_said a ≡ Archive.begun_said b → a ≡ b
begun-answer = OneOutcome.begun-answer

pub offer-answer : (a b : Result Offer Refusal) → Archive.offer_said a ≡ Archive.offer_said b → a ≡ b
offer-answer = OneOutcome.offer-answer

pub admission-answer : (a b : Result Bool Refusal) → Matches.said a ≡ Matches.said b → a ≡ b
admission-answer = OneOutcome.admission-answer

-- ---- "Ids, symbol rows and answers don't depend on" the key of the hash

-- one call on two links that are alike but for the key: the same answer, with every value and every cell lent beside the link's own, and links that are alike
pub call_same : (key : ℕ) (k : Call) (s t : Linked) → Alike key s t → Same key k s t
call_same = KeyFree.call_same

-- the same calls, those that remove too, on new tables of the same lent lists under two keys: the same answers; and links that differ at most in the key, the
-- heads of the hash chains and the chains' links
module _ (key other : ℕ) (gabi : Bool) (bytes names symbols sections inputs lists : List ℕ) where
  abbrev pub start_under : ℕ → Linked
  start_under k = linked (opened (new_of k gabi bytes names symbols sections)) inputs lists

  pub new-alike : (new_of other gabi bytes names symbols sections).said ≡ (new_of key gabi bytes names symbols sections).said
  new-alike = KeyFree.new-alike key other gabi bytes names symbols sections inputs lists

  pub keys-alike : number_in (new_of key gabi bytes names symbols sections).said ≡ 0 → (ks : List Call)
      → SameAnswers ks (start_under key) (start_under other) × Alike other (run_calls ks (start_under key)) (run_calls ks (start_under other))
  keys-alike = KeyFree.keys-alike key other gabi bytes names symbols sections inputs lists

-- ---- a group that is added by itself, and what a walk over an archive passed by: over any link

-- 6: one that lists sections, none that a group added before lists, in an object whose symbol table is excluded or isn't of kind 3
pub alone-unloaded : (o : Group.Object) (work : List ℕ) (n : ℕ) (s : Linked) → (AddGroup.head_in o (group_in s.table work) n).number ≡ 0 → comdat_at o.headers n ≢ 0
    → count_at o.headers n ≢ 0 → lists_again o n (is_noted work) ≡ false → is_loaded o.headers o.table 3 ≡ false → call_refusal (add_group o work n) s ≡ refused 6 n
alone-unloaded o work n s = GroupAloneLaws.alone-unloaded o s.table work n

-- by entries and a member's key, of whatever they are the entries of: of a run whose rows say so (Fine), and a link whose rows are lent
pub tells-them : (walk_key : ℕ) (archives : Archives) (keys : ℕ → ℕ) (named : ℕ → List ℕ) (c : ℕ) (r : Run) → Fine walk_key archives keys named c r → c ≤ 65535
    → r.walk.offered ≤ r.walk.queued → (s : Linked) → s.table.link.symbols ≤ 65535 → s.table.link.symbols * 8 ≤ length s.table.symbols
    → Within.Within s.table.link s.table.names → (cells : List ℕ) → call_number (archive_shadowed archives.bytes r.cells r.walk cells) s ≡ 0
    → Tells (those_below (told_by keys named r.offers s) c) cells (call_left (archive_shadowed archives.bytes r.cells r.walk cells) s)
tells-them walk_key archives keys named c r fine few going s counted room =
    ShadowedLaws.tells-them walk_key archives keys named c r fine few going s (record { few = counted; room = room })

-- ---- worked links: what follows is not said of nothing. A list of them, each computed, in both profiles

pub worked-links : (gabi : Bool) → WorkedLinks gabi
worked-links = Worked.worked-links

-- ---- "Let a link be a new table"

module _ (key : ℕ) (gabi : Bool) (bytes names symbols sections inputs lists : List ℕ) (new : number_in (new_of key gabi bytes names symbols sections).said ≡ 0) where
  abbrev pub start : Linked
  start = linked (opened (new_of key gabi bytes names symbols sections)) inputs lists

  start-ready : Ready start.table
  start-ready = inv-ready start.table [] (new-inv key gabi bytes names symbols sections new)

  start-shown : Shown start.table
  start-shown = inv-shown start.table (new-inv key gabi bytes names symbols sections new)

  -- ---- any sequence of calls, those that remove too

  module _ (ks : List Call) where
    abbrev pub after : Linked
    after = run_calls ks start

    -- "chosen when the table is made and fixed for its life": no call changes the profile
    pub profile : after.table.link.gabi ≡ gabi
    profile = calls-profile ks start ∙ new-profile key gabi bytes names symbols sections new

    marked : Marked after.table (signatures ks start)
    marked = calls-marked ks start [] (new-marked key gabi bytes names symbols sections new)

    -- "Rows past the count are never written": by one more call, whichever it is
    pub past-the-count : (k : Call) → Past.TablePast after.table (call_next k after).table
    past-the-count = CallPast.call-past after (calls-below ks start (inv-below start.table [] (new-inv key gabi bytes names symbols sections new)))

    -- "Interning equal bytes gives the same id", different bytes different ones: an accepted intern, any calls, another one
    pub names-agree : (x y : List ℕ) → Accepted (call_left (intern x) after) → (ls : List Call)
        → let on = run_calls ls (call_next (intern x) after) in
        Accepted (call_left (intern y) on) → (id (call_left (intern x) after) ≡ id (call_left (intern y) on)) ↔ (x ≡ y)
    names-agree x y ok ls ok' = NamesStay.one-id-one-name after (signatures ks start) marked x ok ls y ok'

    -- of several groups of one signature, in this object, in earlier ones and among those added by themselves, the first is kept: one more merge, whose
    -- section n is an accepted group, marks each section that it lists as removed unless the gABI keeps the group, whatever groups follow
    pub first-kept : (o : Stages.Object) (work ids : List ℕ) (n : ℕ)
        → let all = all_in after work ids in
        is_loaded (reader o all).headers n 7 ≡ true → (group_section_of (reader o all) (groups_to o all n) n).stage.number ≡ 0 → (later : List (List ℕ))
        → let met = met_to o all (signatures ks start) n in
        (group_section_of (reader o all) (groups_to o all n) n).work
        ≡ mark_all (mark_group_of (groups_to o all n).work n) (not (Gabi.kept (met ++ signature o all n ∷ later) (length met))) (listed o all n)
    first-kept o work ids = FirstKept.first-kept o (all_in after work ids) (signatures ks start) marked

    -- the same of one more group that is added by itself
    pub alone-kept : (o : Group.Object) (work : List ℕ) (n : ℕ) → call_number (add_group o work n) after ≡ 0 → (later : List (List ℕ))
        → let met = signatures ks start in
        (call_left (add_group o work n) after).work
        ≡ mark_all (mark_group_of work n) (not (Gabi.kept (met ++ GroupAlone.signature o n ∷ later) (length met))) (GroupAlone.listed o n)
    alone-kept o work n = GroupAloneLaws.alone-kept o after.table work n (signatures ks start) marked

    -- a mark that a merge makes stands until its end: the section of a group that the gABI doesn't keep isn't built, and its symbols are undefined for the add
    pub repeated-discarded : (o : Stages.Object) (work ids : List ℕ) → call_number (merge o work ids) after ≡ 0 → (n : ℕ) → n < rows_in o.headers
        → is_loaded o.headers n 7 ≡ true → (later : List (List ℕ))
        → let all = all_in after work ids in
        let met = met_to o all (signatures ks start) n in
        Gabi.kept (met ++ signature o all n ∷ later) (length met) ≡ false
        → (i : ℕ) → i < length (listed o all n) → Discarded.Discarded o all (get_or (listed o all n) i 0)
    repeated-discarded o work ids ok =
        let all = all_in after work ids in
        DiscardedLaws.repeated-discarded o all (signatures ks start) marked (DiscardedLaws.groups-pass o all (DiscardedLaws.merge-passes o all ok).1)

    -- and the row that it has, of kind 1 or 2 and not excluded, is still reserved, not built
    pub repeated-reserved : (o : Stages.Object) (work ids : List ℕ) → call_number (merge o work ids) after ≡ 0 → (m : ℕ) → m < rows_in o.headers
        → class_of o.headers m ≡ 2
        → let all = all_in after work ids in
        Discarded.Discarded o all m → state_at (call_next (merge o work ids) after).table.sections (row_of (Merging.marked o all).work m) ≡ 1
    repeated-reserved o work ids ok m h c d = RowStays.row_stays o (all_in after work ids) ok m h c d.mark

    -- the signatures met before section n: those of the calls before, then those of the object's own groups before it, in order
    pub met-group : (o : Stages.Object) (work ids : List ℕ) (n : ℕ)
        → let all = all_in after work ids in
        (groups_to o all n).stage.number ≡ 0 → is_loaded o.headers n 7 ≡ true → (group_section_of (reader o all) (groups_to o all n) n).stage.number ≡ 0
        → met_to o all (signatures ks start) (suc n) ≡ met_to o all (signatures ks start) n ++ (signature o all n ∷ [])
    met-group o work ids = FirstKept.met-group o (all_in after work ids) (signatures ks start) marked

    pub met-other : (o : Stages.Object) (work ids : List ℕ) (n : ℕ)
        → let all = all_in after work ids in
        (groups_to o all n).stage.number ≡ 0 → is_loaded o.headers n 7 ≡ false → met_to o all (signatures ks start) (suc n) ≡ met_to o all (signatures ks start) n
    met-other o work ids = FirstKept.met-other o (all_in after work ids) (signatures ks start) marked

    -- an accepted merge adds those of all its groups, in order, excluded ones aside; an accepted group its own; calls of other kinds add none
    pub merge-signatures : (o : Stages.Object) (work ids : List ℕ) → call_number (merge o work ids) after ≡ 0
        → signatures (merge o work ids ∷ []) after ≡ Merged.signatures_to o (all_in after work ids) (rows_in o.headers)
    merge-signatures o work ids ok = append-nil _ ∙ MergedLaws.merge-signatures o (all_in after work ids) ok (signatures ks start) marked

    pub alone-signature : (o : Group.Object) (work : List ℕ) (n : ℕ) → call_number (add_group o work n) after ≡ 0
        → signatures (add_group o work n ∷ []) after ≡ GroupAlone.signature o n ∷ []
    alone-signature o work n ok = append-nil _ ∙ GroupAloneLaws.alone-signature o after.table work n (signatures ks start) marked ok

    pub no-signatures : (k : Call) → meets_groups k ≡ false → signatures (k ∷ []) after ≡ []
    no-signatures k = Kept.no-signatures k after

    -- of the adds of an accepted merge, and of those of a library that is loaded, none is left out of the history's log: in order, the rows of all
    -- symbols that are added and aren't local
    pub merge-log-whole : (o : Stages.Object) (work ids : List ℕ) → call_number (merge o work ids) after ≡ 0
        → let all = all_in after work ids in
        rows (call_notes (merge o work ids) after) ≡ Merged.symbol_rows o all (rows_in (object o all).entries)
    merge-log-whole o work ids = MergeTerms.merge-log-whole o (all_in after work ids)

    pub load-log-whole : (o : Shared.Input) (marks : List ℕ) → (call_left (load o marks) after).answer ≡ Ok Loaded
        → rows (call_notes (load o marks) after) ≡ LoadRows.symbol_rows o.entries o.image o.needs (Shared.links_in (library_in after marks)) (Shared.name_of o) (rows_in o.entries)
    load-log-whole o marks = LoadTerms.load-log-whole o (library_in after marks)

    -- a lent list has fewer than 2^64 cells
    module _ (lent : length lists ≤ not_lent) where
      lasting : Lasting after (signatures ks start)
      lasting =
          lasting-on ks start []
          (record {
            marked = new-marked key gabi bytes names symbols sections new;
            counted = Lookups.counted start.table.link start.table.names (WithinLaws.new-within key gabi bytes names symbols sections new);
            below = inv-below start.table [] (new-inv key gabi bytes names symbols sections new);
            lent = lent;
            inside = new-lists key gabi bytes names symbols sections lists;
          })

      -- an id gives its bytes back for ever
      pub names-stay : (x : List ℕ) → Accepted (call_left (intern x) after) → (ls : List Call)
          → call_left (resolve (record { 0 = id (call_left (intern x) after) })) (run_calls ls (call_next (intern x) after)) ≡ resolved x 0 0
      names-stay x ok ls = NamesStay.resolves-on after (signatures ks start) marked x ok ls lasting

      -- ---- lookups by a symbol's id: 21 at it where there is no such row yet, and where it was removed, for ever

      ready : Ready after.table
      ready = (calls-later ks start (inv-ready start.table [] (new-inv key gabi bytes names symbols sections new))).ready

      pub get_absent : (i : SymbolId) → after.table.link.symbols ≤ i.0 → call_left (get i) after ≡ not_found 21 i.0
      get_absent = LookedUp.got-absent after _ lasting ready

      pub get-removed : (i : SymbolId) → call_number (remove i) after ≡ 0 → (ls : List Call) → call_left (get i) (run_calls ls (call_next (remove i) after)) ≡ not_found 21 i.0
      get-removed = LookedUp.removed-got after _ lasting ready

      -- ---- lookups by a section: "`remove` of any `Section` row drops that entry"; so does a collection that drops such a row, and nothing else does

      pub section-removed : (y : SectionId) (i : SymbolId) → call_number (remove i) after ≡ 0 → SectionRow after y i
          → call_left (section_symbol y) (call_next (remove i) after) ≡ None
      section-removed y = SectionSymbolsLaws.removed-none after _ lasting ready y

      pub section-unremoved : (y : SectionId) (i : SymbolId) → (SectionRow after y i → ⊥)
          → call_left (section_symbol y) (call_next (remove i) after) ≡ call_left (section_symbol y) after
      section-unremoved y = SectionSymbolsLaws.removed-other after _ lasting ready y

      module _ (y : SectionId) (marks : List ℕ) (entry : Option SymbolId) (work : List ℕ) (a b : ℕ) (ok : (call_left (collect marks entry work) after).answer ≡ Ok (dropped a b)) where
        abbrev pub StoodBefore : Type 0
        StoodBefore = Collected.Before after.table.link (lists_in after marks) after.table.symbols after.table.sections entry work y.0

        abbrev pub IsReached : Type 0
        IsReached = Roots.Reached after.table.link (lists_in after marks) after.table.symbols after.table.sections entry y.0

        pub section-collected : (i : SymbolId) → SectionRow after y i → StoodBefore → (IsReached → ⊥)
            → call_left (section_symbol y) (call_next (collect marks entry work) after) ≡ None
        section-collected = SectionSymbolsLaws.collected-none after _ lasting ready y marks entry work a b ok

        pub section-uncollected : ((i : SymbolId) → SectionRow after y i → StoodBefore → IsReached)
            → call_left (section_symbol y) (call_next (collect marks entry work) after) ≡ call_left (section_symbol y) after
        section-uncollected = SectionSymbolsLaws.collected-other after _ lasting ready y marks entry work a b ok

      -- "A local `Section` row becomes its section's symbol, the last one winning": one that was added since; else the answer is what it was
      counted : Counted after.table
      counted =
          (calls-stay ks start start-ready start-shown).counted
          (SectionSymbolsLaws.fresh-counted start.table (SectionSymbolsLaws.new-fresh key gabi bytes names symbols sections new))

      some-symbol : 1 ≤ after.table.link.symbols
      some-symbol = omega (arith, counted 0)

      shown : Shown after.table
      shown = (calls-stay ks start start-ready start-shown).shown

      module _ (ls : List Call) (quiet : RemovesNothing ls after) (y : SectionId) where
        abbrev pub onward : Linked
        onward = run_calls ls after

        pub section-newest : (i : SymbolId) → after.table.link.symbols ≤ i.0 → LastOf onward y i → call_left (section_symbol y) onward ≡ Some i
        section-newest =
            SectionSymbolsLaws.since-last after onward _ (lasting-on ls after _ lasting) (calls-later ls after ready).ready (calls-onto ls after quiet ready shown) counted y

        pub section-unchanged : ((i : SymbolId) → after.table.link.symbols ≤ i.0 → LocalSection onward y i → ⊥)
            → call_left (section_symbol y) onward ≡ call_left (section_symbol y) after
        section-unchanged =
            SectionSymbolsLaws.since_none after onward _ (lasting-on ls after _ lasting) (calls-later ls after ready).ready (calls-onto ls after quiet ready shown) counted y

      -- "Rows past the count are never written", of inputs and lists; and one that was counted before the call isn't written either
      pub lists-past : (k : Call) → Lists.ListsLeft after (call_next k after)
      lists-past k = ListsLaws.call-listed k after lasting.lent

      -- ---- "Shared objects": a library that was loaded, after any calls

      -- its row has the ids of its name, of the undefined names of binding 1 that it was given and of its dependencies
      pub library-remembered : (o : Shared.Input) (marks : List ℕ) → (call_left (load o marks) after).answer ≡ Ok Loaded → (ls : List Call)
          → Libraries.Remembered o (library_in after marks) (run_calls ls (call_next (load o marks) after))
      library-remembered o marks ok ls = LibrariesLaws.library-remembered after _ lasting o marks ok ls

      -- and no other call takes a library's row: it comes from a load that was answered "loaded"
      pub library-loaded : (k : ℕ) → k < after.table.link.inputs → input_kind_at after.inputs k ≡ library_kind → LoadedAt k ks start
      library-loaded k = LibraryLoadsLaws.from-loads ks start lent k (new-inputs key gabi bytes names symbols sections k)

      -- so need, which goes by the link's rows (IsNeeded, below), can be told without a cell: by what a lookup answers for a name that the library defines, and
      -- by the libraries that were loaded, their undefined symbols of binding 1 and their dependencies
      pub needed-in : (o : Shared.Input)
          → Needed after.table.link after.table.bytes after.table.names after.table.symbols after.inputs after.lists o.entries o.image (Shared.name_of o)
          ↔ NeededIn start ks o
      needed-in =
          NeededIn.needed-in start []
          (record {
            marked = new-marked key gabi bytes names symbols sections new;
            counted = Lookups.counted start.table.link start.table.names (WithinLaws.new-within key gabi bytes names symbols sections new);
            below = inv-below start.table [] (new-inv key gabi bytes names symbols sections new);
            lent = lent;
            inside = new-lists key gabi bytes names symbols sections lists;
          })
          (inv-ready start.table [] (new-inv key gabi bytes names symbols sections new)) (omega (arith, new-inputs key gabi bytes names symbols sections 0)) ks

      -- and these stand for the names
      pub library-named : (o : Shared.Input) (marks : List ℕ) → (call_left (load o marks) after).answer ≡ Ok Loaded → (ls : List Call)
          → Libraries.Named o (library_in after marks) (run_calls ls (call_next (load o marks) after))
      library-named o marks ok ls = LibrariesLaws.library-named after _ lasting o marks ok ls

      -- ---- "Objects": what a merge built, after any calls

      -- each loaded program and uninitialized section that no repeated group removes: its name, kind, retain and read, and the ids of the symbols that its
      -- last loaded relocation table names, in order. So its row stays, through all calls but a collection that doesn't reach it
      module _ (o : Stages.Object) (work ids : List ℕ) (ok : call_number (merge o work ids) after ≡ 0) where
        pub rows_taken : (call_next (merge o work ids) after).table.link.sections ≡ section_id o after (sections_in o.headers)
        rows_taken = ObjectSectionsLaws.rows_taken after _ lasting o work ids ok

        -- and later merges find the signatures of its groups met
        pub signatures-own : signatures (merge o work ids ∷ []) after ≡ own_signatures o.headers o.entries o.contents o.image (sections_in o.headers)
        signatures-own = ObjectSectionsLaws.signatures-own after _ lasting o work ids ok

        -- the ids that it gave the symbols stand for them after any calls: of a local one the row has what the symbol's entry says, any other is its name's
        pub cell-stands : (ls : List Call) (k id : ℕ)
            → k < object_entries (ObjectWords.symbols_of o.headers o.entries o.contents o.image) → get_or (call_left (merge o work ids) after).cells.ids k 0 ≡ id + 1
            → Stands o after (signatures ks start) (run_calls ls (call_next (merge o work ids) after)) k id
        cell-stands = GivenRows.cell-stands after _ lasting ready shown some-symbol o work ids ok

        module _ (n : ℕ) (unremoved : is_removed o.headers o.entries o.contents o.image (signatures ks start) (sections_in o.headers) n ≡ false) (ls : List Call)
            (spared : SparesAll ls (call_next (merge o work ids) after) (section_id o after n)) where
          abbrev pub then : Linked
          then = run_calls ls (call_next (merge o work ids) after)

          pub program-built : loaded_as o.headers n program ≡ true
              → ObjectSections.ObjectSection o work ids after then n program (named_by o.headers o.contents n (sections_in o.headers))
          program-built = ObjectSectionsLaws.program-built after _ lasting o work ids ok n unremoved ls spared

          pub uninitialized-built : loaded_as o.headers n uninitialized ≡ true → ObjectSections.ObjectSection o work ids after then n uninitialized []
          uninitialized-built = ObjectSectionsLaws.uninitialized-built after _ lasting o work ids ok n unremoved ls spared

          -- the ids that it names stand for the object's symbols still: of a local one the row has what the symbol's entry says, any other is its name's
          pub symbols-stand : (kind : ℕ) (named : List ℕ) (x : ObjectSections.ObjectSection o work ids after then n kind named)
              → AllStand o after (signatures ks start) then named x.given
          symbols-stand kind named x = GivenRows.all-stand after _ lasting ready shown some-symbol o work ids ok ls named x.given x.gives

          -- so collection goes by the objects' relocations: such a section names another just if one of the ids that its table's symbols were given lies there
          pub lists-in : then.table.link.lists ≤ length then.lists
          lists-in = (lasting-on ls (call_next (merge o work ids) after) _ (lasting-on (merge o work ids ∷ []) after _ lasting)).inside

          module _ (kind : ℕ) (named : List ℕ) (x : ObjectSections.ObjectSection o work ids after then n kind named) (marks : List ℕ) (z : ℕ) where
            abbrev pub LeadsTo : ℕ → Type 0
            LeadsTo = ObjectSections.LeadsTo o work ids after then n kind named lists-in x marks z

            pub names-lead : ObjectSections.NamesIn o work ids after then n kind named lists-in x marks z → (j : ℕ) × (j < length x.given) × LeadsTo (get_or x.given j 0)
            names-lead = ObjectSectionsLaws.names-lead o work ids after then n kind named lists-in x marks z

            pub lead-named : (j : ℕ) → j < length x.given → LeadsTo (get_or x.given j 0) → ObjectSections.NamesIn o work ids after then n kind named lists-in x marks z
            lead-named = ObjectSectionsLaws.lead-named o work ids after then n kind named lists-in x marks z

      -- ---- what a walk over an archive passed by: over this link, whatever was removed from it, of a walk that an accepted start began and whose calls were
      -- lent whatever tables (those of a history are tables_at, Walks.antt)

      fits : Fits after.table
      fits = record { few = ready.below.few; room = ready.room }

      module _ (walk_key : ℕ) (archives : Archives) (rows : List ℕ) (begun : call_number (archive_start walk_key archives rows) after ≡ 0) (passed : List Table) (cells : List ℕ) where
        abbrev pub walk_so_far : Run
        walk_so_far = history archives passed (start_run walk_key archives rows)

        abbrev pub shadowed_by : Run → Call
        shadowed_by r = archive_shadowed archives.bytes r.cells r.walk cells

        -- an entry is told just where its name's lookup answers a weak definition and no call of the walk has offered its member, or an undefined row and one has
        pub shadowed-exactly : call_number (shadowed_by walk_so_far) after ≡ 0
            → Tells (those_below (told archives walk_so_far.offers after) (entries_in archives)) cells (call_left (shadowed_by walk_so_far) after)
        shadowed-exactly = ShadowedLaws.told-exactly walk_key archives rows begun passed after fits (lasting-within after _ lasting) cells

        -- the call is accepted where cells are lent for all entries
        pub shadowed-goes : entries_in archives ≤ length cells → call_number (shadowed_by walk_so_far) after ≡ 0
        shadowed-goes = ShadowedLaws.goes walk_key archives rows begun passed after fits (lasting-within after _ lasting) cells (signatures ks start) marked

        -- the walk after one more call, over this link
        abbrev pub walk_next : Run
        walk_next = next_in archives walk_so_far after

        -- where that call ends the walk and nothing is told then, each name of the index that the link knows is held strongly (a global common counts), or weakly
        -- where the members of all its entries were offered; in the gABI profile a weak reference, which "ties no member", may hold it
        pub all-settled : walk_so_far.walk.done ≡ false → walk_next.walk.done ≡ true → (call_left (shadowed_by walk_next) after).answer ≡ Ok 0
            → (k : ℕ) → k < entries_in archives → knows (name_in archives k) after ≡ true
            → Settled (key_in archives) (name_in archives) walk_next.offers after k
        all-settled = ShadowedLaws.all-settled walk_key archives rows begun passed after fits (lasting-within after _ lasting) cells

        -- so in the old profile, where a member was not offered, the link holds its name strongly or as a global common, or doesn't know it. Of a member that was
        -- offered and not merged it says nothing
        pub passed-by-held : gabi ≡ false → walk_so_far.walk.done ≡ false → walk_next.walk.done ≡ true → (call_left (shadowed_by walk_next) after).answer ≡ Ok 0
            → (k : ℕ) → k < entries_in archives → among archives k walk_next.offers ≡ false → knows (name_in archives k) after ≡ true
            → strongly_defined (name_in archives k) after ≡ true
        passed-by-held old d e told k h free known = ShadowedLaws.held-strongly archives walk_next.offers after k (profile ∙ old) free (all-settled d e told k h known)

      -- ---- the figures of a title: of this link and a walk that an accepted start began and whose calls were lent whatever tables

      rows-lent : Sectioned after.table
      rows-lent =
          FiguresLaws.calls-lent ks start (inv-below start.table [] (new-inv key gabi bytes names symbols sections new))
          (new-sectioned key gabi bytes names symbols sections new)

      pub figures-are : (walk_key : ℕ) (archives : Archives) (rows : List ℕ) → call_number (archive_start walk_key archives rows) after ≡ 0 → (passed : List Table)
          → FiguresAre after archives passed (start_run walk_key archives rows)
      figures-are = FiguresLaws.figures-are after fits (lasting-within after _ lasting) rows-lent

      -- a collection that isn't refused moves sections and bytes from kept to dropped, and loses none
      pub none-lost : (marks : List ℕ) (entry : Option SymbolId) (work : List ℕ) (a b : ℕ) → (call_left (collect marks entry work) after).answer ≡ Ok (dropped a b)
          → (walk : Run) → NoneLost (title_of after walk) (title_of (call_next (collect marks entry work) after) walk)
      none-lost = FiguresLaws.none-lost after fits (lasting-within after _ lasting)

      -- ---- what a member that was not taken would have defined: over this link, whatever was removed from it. The member is any object

      module _ (headers entries contents file : List ℕ) where
        abbrev pub asked : List ℕ → Call
        asked = would_define headers entries contents file

        abbrev pub count : ℕ
        count = object_entries (ObjectWords.symbols_of headers entries contents file)

        -- a symbol of the table that a merge would load is told just where it has a name and is a definition, global or weak, and no file symbol; and a lookup of the
        -- name answers an undefined row, a common where the symbol is a global definition that is none, or a weak definition where it is a global one or a common.
        -- With its number comes the row's id
        pub untaken-exactly : (cells : List ℕ) → call_number (asked cells) after ≡ 0
            → TellsPairs (held_id headers entries contents file after) (those_below (would headers entries contents file after) count) cells (call_left (asked cells) after)
        untaken-exactly cells = UntakenLaws.tells-them headers entries contents file after fits (lasting-within after _ lasting) cells

        -- the call is accepted where the object's rows are in range and two cells are lent for each symbol
        pub untaken-goes : (cells : List ℕ) → (Elf.judge_of headers entries (length contents) (length file)).number ≡ 0 → count ≤ length cells / 2 → call_number (asked cells) after ≡ 0
        untaken-goes cells = UntakenLaws.tells-goes headers entries contents file after fits (lasting-within after _ lasting) cells (signatures ks start) marked

        -- and a symbol is told just where the resolution would take it: an accepted add of what is told leaves its row under the name, hidden too if in the gABI's
        -- profile the row was; one of another definition of a name that the link knows leaves the row, joined with it if both are common, hidden too if it is
        module _ (i : ℕ) (conversion : List ℕ) (source : Option Interned) where
          abbrev pub added : Call
          added = add conversion (as_added headers entries contents file after i source)

          abbrev pub its_row : Row
          its_row = upcoming after.table conversion (as_added headers entries contents file after i source)

          abbrev pub row_in : Linked → Row
          row_in s = row_at s.table.symbols (held_id headers entries contents file after i)

          pub told-takes-over : call_number added after ≡ 0 → would headers entries contents file after i ≡ true
              → row_in (call_next added after) ≡ pass_hidden after.table.link.gabi (row_in after).scope its_row
          told-takes-over = Taking.told-takes-over headers entries contents file after fits (lasting-within after _ lasting) i conversion source

          pub untold-stays : call_number added after ≡ 0 → defines headers entries contents file after i ≡ true → knows (ObjectWords.symbol_name headers entries contents file i) after ≡ true
              → would headers entries contents file after i ≡ false → row_in (call_next added after) ≡ pass_hidden after.table.link.gabi its_row.scope (Apply.joined (row_in after) its_row)
          untold-stays = Taking.untold-stays headers entries contents file after fits (lasting-within after _ lasting) i conversion source

  -- ---- the same where lists grow between calls

  -- "any sequence of calls that removes nothing", before each of which cells may be lent more, behind those that the link has (Growth.antt). What is
  -- said above of one call, its refusals and what they leave, is about any link, so of these too
  module _ (ts : List Turn) (calm : Quiet ts start) (lent : length lists ≤ not_lent) where
    abbrev pub grown_end : Linked
    grown_end = run_turns ts start

    abbrev pub grown_adds : ℕ → List Entry
    grown_adds n = only n (log_turns ts start)

    some : SomeTurns grown_end (log_turns ts start)
    some =
        turns-reached ts start [] calm
        (record {
          met = [];
          reached =
              record {
                held = new-inv key gabi bytes names symbols sections new;
                marked = new-marked key gabi bytes names symbols sections new;
                counted = Lookups.counted start.table.link start.table.names (WithinLaws.new-within key gabi bytes names symbols sections new);
                lent = lent;
                inside = new-lists key gabi bytes names symbols sections lists;
              };
        })

    -- neither a call nor more cells change the profile
    pub grown-profile : grown_end.table.link.gabi ≡ gabi
    grown-profile = turns-profile ts start ∙ new-profile key gabi bytes names symbols sections new

    -- demand 3a, hidden in the gABI profile, and what a lookup answers
    pub grown-3a : (n : ℕ) (x : Entry) (xs : List Entry) → grown_adds n ≡ x ∷ xs → Demand.Resolved gabi grown_end.table n x xs
    grown-3a n x xs e =
        subst (λ (g : Bool). Demand.Resolved g grown_end.table n x xs) grown-profile (DemandLaws.resolved grown_end.table _ some.reached.held n x xs e)

    pub grown-hidden : (n : ℕ) (x : Entry) (xs : List Entry) → grown_adds n ≡ x ∷ xs → gabi ≡ true
        → is_hidden (row_at grown_end.table.symbols x.id) ≡ some_hidden (rows (from_objects (grown_adds n)))
    grown-hidden n x xs e g =
        DemandLaws.hidden-gabi grown_end.table n x xs (subst (λ (g : Bool). Demand.Resolved g grown_end.table n x xs) g (grown-3a n x xs e))
        ∙ ap (λ (l : List Entry). some_hidden (rows l)) (sym e)
        ∙ hidden-objects (grown_adds n) (only-shown n (log_turns ts start) (turns-shown ts start calm (new-profile key gabi bytes names symbols sections new ∙ g)))

    pub grown-row : (n : ℕ) (x : Entry) (xs : List Entry) → grown_adds n ≡ x ∷ xs
        → call_left (get_global (record { 0 = n })) grown_end ≡ Ok (symbol_of (record { 0 = x.id }) (hidden_by gabi (rows (x ∷ xs)) (joined_in (rows (x ∷ xs)) (first_by_rank gabi x.row (rows xs)))))
    grown-row n x xs e =
        WithinLaws.lookup-row grown_end.table _ some.reached.held (reached-within grown_end _ _ some.reached) n x xs e
        ∙ ap (λ (g : Bool). Ok (symbol_of (record { 0 = x.id }) (hidden_by g (rows (x ∷ xs)) (joined_in (rows (x ∷ xs)) (first_by_rank g x.row (rows xs)))))) grown-profile

    pub grown-none : (n : ℕ) → grown_adds n ≡ [] → call_left (get_global (record { 0 = n })) grown_end ≡ not_found 23 0
    grown-none = WithinLaws.lookup-none grown_end.table _ some.reached.held (reached-within grown_end _ _ some.reached)

    -- the gABI's resolution
    pub grown-gabi : (n : ℕ) (x : Entry) (xs : List Entry) → grown_adds n ≡ x ∷ xs
        → Agreement.Agrees gabi x.row (rows xs) (sym_of_row x.row) (syms_of (rows xs)) (row_at grown_end.table.symbols x.id) (Resolution.resolve (syms_of (rows (x ∷ xs))))
    grown-gabi n x xs e =
        subst (λ (g : Bool). Agreement.Agrees g x.row (rows xs) (sym_of_row x.row) (syms_of (rows xs)) (row_at grown_end.table.symbols x.id) (Resolution.resolve (syms_of (rows (x ∷ xs))))) grown-profile
        (AgreementLaws.accepted grown_end.table _ some.reached.held n x xs e _ _ (all-mean-own (rows (x ∷ xs))))

    -- demand 3b: Walked is over every sequence of tables, those of such a history too; no call of a walk over it is refused
    pub grown-walk : (walk_key : ℕ) (archives : Archives) (cells : List ℕ) → call_number (archive_start walk_key archives cells) grown_end ≡ 0 → (us : List Table)
        → let r = history archives us (start_run walk_key archives cells) in
        Walked archives us r × (call_number (archive_next archives r.cells r.walk) grown_end ≡ 0)
    grown-walk walk_key archives cells begun us = (walked walk_key archives cells begun us, WalkInLaws.next-goes archives walk_key cells begun grown_end _ _ some.reached us)

    -- and what a walk passed by is told of such a link too
    pub grown-shadowed : (walk_key : ℕ) (archives : Archives) (rows : List ℕ) → call_number (archive_start walk_key archives rows) grown_end ≡ 0 → (us : List Table) (cells : List ℕ)
        → let r = history archives us (start_run walk_key archives rows) in
        call_number (archive_shadowed archives.bytes r.cells r.walk cells) grown_end ≡ 0
        → Tells (those_below (told archives r.offers grown_end) (entries_in archives)) cells (call_left (archive_shadowed archives.bytes r.cells r.walk cells) grown_end)
    grown-shadowed walk_key archives rows begun us cells =
        ShadowedLaws.told-exactly walk_key archives rows begun us grown_end (WithinLaws.inv-fits grown_end.table _ some.reached.held) (reached-within grown_end _ _ some.reached) cells

    -- and so is what a member would have defined
    pub grown-untaken : (headers entries contents file cells : List ℕ) → call_number (would_define headers entries contents file cells) grown_end ≡ 0
        → TellsPairs (held_id headers entries contents file grown_end)
        (those_below (would headers entries contents file grown_end) (object_entries (ObjectWords.symbols_of headers entries contents file))) cells
        (call_left (would_define headers entries contents file cells) grown_end)
    grown-untaken headers entries contents file cells =
        UntakenLaws.tells-them headers entries contents file grown_end (WithinLaws.inv-fits grown_end.table _ some.reached.held) (reached-within grown_end _ _ some.reached) cells

  -- ---- 3. the demands

  -- "and any sequence of calls that removes nothing": refused ones count, merges and loads with what they had accepted
  module _ (ks : List Call) (quiet : RemovesNothing ks start) where
    abbrev pub end : Linked
    end = run_calls ks start

    -- a name's accepted adds, "local adds set aside": direct ones, those of objects, those of libraries
    abbrev pub accepted_adds : ℕ → List Entry
    accepted_adds n = only n (log_calls ks start)

    held : Inv end.table (log_calls ks start)
    held = calls-keep ks start [] quiet (new-inv key gabi bytes names symbols sections new)

    sectioned : Sectioned end.table
    sectioned = calls-sectioned ks start [] quiet (new-inv key gabi bytes names symbols sections new) (new-sectioned key gabi bytes names symbols sections new)

    -- a lent list has fewer than 2^64 cells
    module _ (lent : length lists ≤ not_lent) where
      pub reached : Reached end (log_calls ks start) (signatures ks start)
      reached =
          reached-on ks start [] [] quiet
          (record {
            held = new-inv key gabi bytes names symbols sections new;
            marked = new-marked key gabi bytes names symbols sections new;
            counted = Lookups.counted start.table.link start.table.names (WithinLaws.new-within key gabi bytes names symbols sections new);
            lent = lent;
            inside = new-lists key gabi bytes names symbols sections lists;
          })

      within : Within.Within end.table.link end.table.names
      within = reached-within end _ _ reached

    -- "each global name has the id of its first accepted add and the content of its first accepted strong definition, else weak
    -- definition, else add"; 2026-06: "the first strong definition that is no common, else the commons joined, else as before"
    pub demand-3a : (n : ℕ) (x : Entry) (xs : List Entry) → accepted_adds n ≡ x ∷ xs → Demand.Resolved gabi end.table n x xs
    demand-3a n x xs e = subst (λ (g : Bool). Demand.Resolved g end.table n x xs) (profile ks) (DemandLaws.resolved end.table _ held n x xs e)

    -- apart from hidden that is the row, in both profiles; in the old one it is the whole row
    pub content-3a : (n : ℕ) (x : Entry) (xs : List Entry) → accepted_adds n ≡ x ∷ xs → SameButHidden (row_at end.table.symbols x.id) (joined_in (rows (x ∷ xs)) (first_by_rank gabi x.row (rows xs)))
    content-3a n x xs e = DemandLaws.content-apart end.table n x xs gabi (demand-3a n x xs e)

    pub content-old : (n : ℕ) (x : Entry) (xs : List Entry) → accepted_adds n ≡ x ∷ xs → gabi ≡ false → HeldBy (ranked false) (rows (x ∷ xs)) (row_at end.table.symbols x.id)
    content-old n x xs e g = DemandLaws.content-old end.table n x xs (subst (λ (g : Bool). Demand.Resolved g end.table n x xs) g (demand-3a n x xs e))

    -- in the gABI profile the row is hidden just if one of the adds is
    pub hidden-3a : (n : ℕ) (x : Entry) (xs : List Entry) → accepted_adds n ≡ x ∷ xs → gabi ≡ true → is_hidden (row_at end.table.symbols x.id) ≡ some_hidden (rows (x ∷ xs))
    hidden-3a n x xs e g = DemandLaws.hidden-gabi end.table n x xs (subst (λ (g : Bool). Demand.Resolved g end.table n x xs) g (demand-3a n x xs e))

    -- in the gABI profile hidden "is taken from all accepted object adds": a library's is never hidden
    pub hidden-objects-3a : (n : ℕ) (x : Entry) (xs : List Entry) → accepted_adds n ≡ x ∷ xs → gabi ≡ true
        → is_hidden (row_at end.table.symbols x.id) ≡ some_hidden (rows (from_objects (accepted_adds n)))
    hidden-objects-3a n x xs e g =
        hidden-3a n x xs e g
        ∙ ap (λ (l : List Entry). some_hidden (rows l)) (sym e)
        ∙ hidden-objects (accepted_adds n)
        (only-shown n (log_calls ks start) (calls-shown ks start quiet (new-profile key gabi bytes names symbols sections new ∙ g)))

    -- a name without accepted global add has no row
    pub no_row : (n : ℕ) → accepted_adds n ≡ [] → n < end.table.link.names → global_at end.table.names n ≡ 0
    no_row n e i = DemandLaws.no_row end.table _ held n e i

    -- an id once given to a name stays its own
    pub ids-stay : (ls : List Call) → RemovesNothing ls end → (n : ℕ) → n < end.table.link.names → global_at end.table.names n ≢ 0
        → Writes.Bears (run_calls ls end).table n (global_at end.table.names n)
    ids-stay ls q n i z = WritesLaws.stays end.table (run_calls ls end).table _ _ held (calls-keep ls end _ q held) n i z

    -- "a collection that drops nothing removes nothing": it leaves the link
    pub drops-nothing : (marks : List ℕ) (entry : Option SymbolId) (work : List ℕ) → (Removes (collect marks entry work) end → ⊥)
        → call_next (collect marks entry work) end ≡ end
    drops-nothing marks entry work q = Idle.drops-nothing marks entry work end q

    -- ---- 2. the gABI

    -- whichever symbols the rows mean
    pub gabi-agrees-any : (n : ℕ) (x : Entry) (xs : List Entry) → accepted_adds n ≡ x ∷ xs → (s : Sym) (ss : List Sym) → AllMean (rows (x ∷ xs)) (s ∷ ss)
        → Agreement.Agrees gabi x.row (rows xs) s ss (row_at end.table.symbols x.id) (Resolution.resolve (s ∷ ss))
    gabi-agrees-any n x xs e s ss m =
        subst (λ (g : Bool). Agreement.Agrees g x.row (rows xs) s ss (row_at end.table.symbols x.id) (Resolution.resolve (s ∷ ss))) (profile ks)
        (AgreementLaws.accepted end.table _ held n x xs e s ss m)

    -- of the symbols that are accepted under a name the gABI resolves to the one that the row has; undefined where it has none. As in document 01, the
    -- symbols of shared objects are among them like any other: the gABI itself, in its chapters on dynamic linking, lets a library's definition stand
    -- beside an executable's, and sees no duplicate in the two (docs/DIFFERENCES.md)
    pub gabi-agrees : (n : ℕ) (x : Entry) (xs : List Entry) → accepted_adds n ≡ x ∷ xs
        → Agreement.Agrees gabi x.row (rows xs) (sym_of_row x.row) (syms_of (rows xs)) (row_at end.table.symbols x.id) (Resolution.resolve (syms_of (rows (x ∷ xs))))
    gabi-agrees n x xs e = gabi-agrees-any n x xs e _ _ (all-mean-own (rows (x ∷ xs)))

    -- which makes no difference to the gABI
    pub resolve-own : (rs : List Row) (ss : List Sym) → AllMean rs ss → Resolution.resolve ss ≡ Resolution.resolve (syms_of rs)
    resolve-own = AgreementLaws.resolve-own

    -- ---- the inputs' own entries

    -- the content of a name (demand-3a), but a joined common's size and alignment, is that of an entry of an object, of a library or of a direct add: its type, section, value, weak and hidden are what
    -- the entry says, in document 01's words (FromSymbol, FromLibrary, FromAdd); a library's is hidden in the old profile only
    pub contents : (n : ℕ) (x : Entry) (xs : List Entry) → accepted_adds n ≡ x ∷ xs → FromCalls (first_by_rank gabi x.row (rows xs)) ks start []
    contents n x xs e =
        subst (λ (g : Bool). FromCalls (first_by_rank g x.row (rows xs)) ks start []) (profile ks)
        (Contents.held-from ks start [] (new-marked key gabi bytes names symbols sections new) held n x xs e)

    -- and so is each of its accepted adds
    pub adds-from : (n : ℕ) (x : Entry) (xs : List Entry) → accepted_adds n ≡ x ∷ xs → AllFrom ks start [] (rows (x ∷ xs))
    adds-from n x xs e = subst (λ (l : List Entry). AllFrom ks start [] (rows l)) e (Contents.adds-from ks start [] (new-marked key gabi bytes names symbols sections new) n)

    -- these entries bear the name: by its bytes, an object's and a library's symbols; a direct add by the id that the caller gave it
    pub adds-bear : (b : List ℕ) (x : Entry) (xs : List Entry) → accepted_adds (find (store end.table) b) ≡ x ∷ xs → (from : AllFrom ks start [] (rows (x ∷ xs)))
        → EntryNames.AllBear b (find (store end.table) b) ks start [] (x ∷ xs) from
    adds-bear b x xs e from =
        EntryNamesLaws.adds-bear b (find (store end.table) b) ks start [] (new-marked key gabi bytes names symbols sections new)
        (EntryNamesLaws.issued-by end.table (log_calls ks start) held (marked ks).good.chained b x xs e) (x ∷ xs) e from

    module _ (n : ℕ) (x : Entry) (xs : List Entry) (e : accepted_adds n ≡ x ∷ xs) (from : AllFrom ks start [] (rows (x ∷ xs))) where
      abbrev pub own_entries : List Sym
      own_entries = entries_of ks start [] (rows (x ∷ xs)) from

      -- the gABI's resolution of these entries
      pub gabi-agrees-own : Agreement.Agrees gabi x.row (rows xs) (entry_of x.row ks start [] from.0) (entries_of ks start [] (rows xs) from.1) (row_at end.table.symbols x.id) (Resolution.resolve own_entries)
      gabi-agrees-own = gabi-agrees-any n x xs e _ _ (all-mean ks start [] (rows (x ∷ xs)) from)

      -- the gABI's combined visibility of them: in the gABI profile the row's own; in the old one it is hidden just if the row is, or, "hidden isn't passed
      -- on to another holder", another entry of the name is
      pub gabi-visible : gabi ≡ true → combined own_entries ≡ cond (is_hidden (row_at end.table.symbols x.id)) stv_hidden stv_default
      gabi-visible g =
          HiddenLaws.combined-is (rows (x ∷ xs)) own_entries (all-show ks start [] (rows (x ∷ xs)) from)
          ∙ ap (λ (b : Bool). cond b stv_hidden stv_default) (sym (hidden-3a n x xs e g))

      pub hidden-differs : (old : gabi ≡ false)
          → combined own_entries ≡ cond (is_hidden (row_at end.table.symbols x.id) || not_passed_on (content-old n x xs e old).first) stv_hidden stv_default
      hidden-differs old =
          let f : HeldBy (ranked false) (rows (x ∷ xs)) (row_at end.table.symbols x.id) = content-old n x xs e old in
          HiddenLaws.hidden-differs (rows (x ∷ xs)) own_entries (all-show ks start [] (rows (x ∷ xs)) from) f.holder f.first
          ∙ ap (λ (h : Bool). cond (h || not_passed_on f.first) stv_hidden stv_default) (sym (ap is_hidden f.is ∙ hidden-joined (rows (x ∷ xs)) f.holder))

    -- a further add, global, of a symbol whose binding, visibility and value pass, is refused with 17 exactly where the gABI sees a duplicate, those of
    -- shared objects counted like any other (see gabi-agrees)
    module _ (conversion : List ℕ) (u : UpcomingSymbol) (x : Entry) (xs : List Entry) where
      abbrev pub row : Row
      row = upcoming end.table conversion u

      module _ (e : accepted_adds row.name.0 ≡ x ∷ xs) (global : row.scope ≢ 0) (passes : scope_refused row ≡ false)
          (valued : value_refused row ≡ false) where
        -- whichever symbols the rows mean
        module _ (s : Sym) (ss : List Sym) (m : AllMean (rows (x ∷ xs)) (s ∷ ss)) (g : Sym) (own : Means row g) where
          pub refused-duplicate-any : call_number (add conversion u) end ≡ 17 → Resolution.resolve ((s ∷ ss) ++ (g ∷ [])) ≡ Resolution.duplicate
          refused-duplicate-any q =
              Duplicate.refused-duplicate end.table _ held row x xs e global passes valued s ss m g own (AddCall.seventeen-row end.table conversion u passes q)

          pub duplicate-refused-any : length lists ≤ not_lent → end.table.link.broken ≡ false → in_range u ≡ true → file_issued end.table.link (file_of u) ≡ true
              → Resolution.resolve ((s ∷ ss) ++ (g ∷ [])) ≡ Resolution.duplicate → call_number (add conversion u) end ≡ 17
          duplicate-refused-any lent whole ranged issued d =
              let fits = sections-judged end.table (within lent) sectioned in
              AddCall.row-answers end.table conversion u (AddCall.head-passes end.table conversion u _ held (within lent) whole fits ranged) issued
              ∙ Duplicate.duplicate-refused end.table _ held row x xs e global passes valued s ss m g own d

        pub refused-duplicate : call_number (add conversion u) end ≡ 17 → Resolution.resolve (syms_of (rows (x ∷ xs)) ++ (sym_of_row row ∷ [])) ≡ Resolution.duplicate
        refused-duplicate = refused-duplicate-any _ _ (all-mean-own (rows (x ∷ xs))) _ (means-own row)

        -- where neither 22 nor 1 comes first, nor 21 for its file's name: the link isn't broken, the symbol's fields are in range, the name of its file
        -- is issued
        pub duplicate-refused : length lists ≤ not_lent → end.table.link.broken ≡ false → in_range u ≡ true → file_issued end.table.link (file_of u) ≡ true
            → Resolution.resolve (syms_of (rows (x ∷ xs)) ++ (sym_of_row row ∷ [])) ≡ Resolution.duplicate → call_number (add conversion u) end ≡ 17
        duplicate-refused = duplicate-refused-any _ _ (all-mean-own (rows (x ∷ xs))) _ (means-own row)

    -- the same of the symbols of one more merge
    module _ (o : Stages.Object) (work ids : List ℕ) where
      -- the accepted adds before its symbol i: those of the link, and behind them the merge's own so far (merge-log)
      abbrev pub merged_to : ℕ → List Entry
      merged_to = InMerge.past_to o (all_in end work ids) (log_calls ks start)

      -- the row that symbol i would become; it means the object's entry (merge-row-means)
      abbrev pub merge_row : ℕ → Row
      merge_row = InMerge.row_to o (all_in end work ids)

      -- refused with 17 at its symbol i: the gABI sees a duplicate in that symbol and those accepted before it
      pub merge-refused-duplicate : call_number (merge o work ids) end ≡ 17
          → let i = (call_refusal (merge o work ids) end).place in
          IsDuplicate (merged_to i) (merge_row i)
      merge-refused-duplicate = CallDuplicates.merge-refused-duplicate o (all_in end work ids) _ held

      -- to which the merge came without another refusal
      pub merge-refused-at : call_number (merge o work ids) end ≡ 17 → InMerge.RefusedAt o (all_in end work ids) (call_refusal (merge o work ids) end).place
      merge-refused-at = InMergeLaws.merge-refused-at o (all_in end work ids)

      -- and where it sees one the merge is refused so: it comes to symbol i, which is to be added, and is global and passes like a direct add's
      pub merge-duplicate-refused : (i : ℕ) → InMerge.Comes o (all_in end work ids) i → InMerge.Adds o (all_in end work ids) i → Judges (merge_row i)
          → IsDuplicate (merged_to i) (merge_row i) → call_refusal (merge o work ids) end ≡ refused 17 i
      merge-duplicate-refused = CallDuplicates.merge-duplicate-refused o (all_in end work ids) _ held

      -- the merge's accepted adds begin with those before symbol i
      pub merge-log : (i : ℕ) → InMerge.Comes o (all_in end work ids) i → InMerge.LogBegins o (all_in end work ids) i
      merge-log = InMergeLaws.log-begins o (all_in end work ids)

      -- the entry is undefined by now if its section is removed
      pub merge-row-means : (i : ℕ) → Judges (merge_row i) → Means (merge_row i) (sym_of (InMerge.entry_to o (all_in end work ids) i))
      merge-row-means i j = InMergeLaws.row-means o (all_in end work ids) i j.global j.passes j.valued

    -- and of one more load, whose symbols count like any other (see gabi-agrees)
    module _ (o : Shared.Input) (marks : List ℕ) where
      abbrev pub loaded_to : ℕ → List Entry
      loaded_to = InLoad.past_to o (library_in end marks) (log_calls ks start)

      abbrev pub loaded_row : ℕ → Row
      loaded_row = InLoad.row_to o (library_in end marks)

      pub load-refused-duplicate : call_number (load o marks) end ≡ 17
          → let i = (call_refusal (load o marks) end).place in
          IsDuplicate (loaded_to i) (loaded_row i)
      load-refused-duplicate = CallDuplicates.load-refused-duplicate o (library_in end marks) _ held

      pub load-refused-at : call_number (load o marks) end ≡ 17 → InLoad.RefusedAt o (library_in end marks) (call_refusal (load o marks) end).place
      load-refused-at = InLoadLaws.load-refused-at o (library_in end marks)

      pub load-duplicate-refused : (i : ℕ) → InLoad.Comes o (library_in end marks) i → InLoad.Adds o (library_in end marks) i → Judges (loaded_row i)
          → IsDuplicate (loaded_to i) (loaded_row i) → call_refusal (load o marks) end ≡ refused 17 i
      load-duplicate-refused = CallDuplicates.load-duplicate-refused o (library_in end marks) _ held

      pub load-log : (i : ℕ) → InLoad.Comes o (library_in end marks) i → InLoad.LogBegins o (library_in end marks) i
      load-log = InLoadLaws.log-begins o (library_in end marks)

      pub load-row-means : (i : ℕ) → InLoad.Adds o (library_in end marks) i → Judges (loaded_row i) → Means (loaded_row i) (shared_entry end.table.link.gabi (sym_of (elf_at o.entries i)))
      load-row-means i s j = InLoadLaws.row-means o (library_in end marks) i s j.global j.passes

    -- a lent list has fewer than 2^64 cells
    module _ (lent : length lists ≤ not_lent) where
      -- what a lookup by the name then answers
      pub lookup-row : (n : ℕ) (x : Entry) (xs : List Entry) → accepted_adds n ≡ x ∷ xs
          → call_left (get_global (record { 0 = n })) end ≡ Ok (symbol_of (record { 0 = x.id }) (hidden_by gabi (rows (x ∷ xs)) (joined_in (rows (x ∷ xs)) (first_by_rank gabi x.row (rows xs)))))
      lookup-row n x xs e =
          WithinLaws.lookup-row end.table _ held (within lent) n x xs e
          ∙ ap (λ (g : Bool). Ok (symbol_of (record { 0 = x.id }) (hidden_by g (rows (x ∷ xs)) (joined_in (rows (x ∷ xs)) (first_by_rank g x.row (rows xs)))))) (profile ks)

      pub lookup-none : (n : ℕ) → accepted_adds n ≡ [] → call_left (get_global (record { 0 = n })) end ≡ not_found 23 0
      lookup-none = WithinLaws.lookup-none end.table _ held (within lent)

      -- the same by a name's bytes: interned, and looked up by the id that was answered
      module _ (b : List ℕ) where
        abbrev pub id_now : ℕ
        id_now = id (call_left (intern b) end)

        pub lookup-interned : (x : Entry) (xs : List Entry) → accepted_adds id_now ≡ x ∷ xs
            → call_left (get_global (record { 0 = id_now })) (call_next (intern b) end)
            ≡ Ok (symbol_of (record { 0 = x.id }) (hidden_by gabi (rows (x ∷ xs)) (joined_in (rows (x ∷ xs)) (first_by_rank gabi x.row (rows xs)))))
        lookup-interned x xs e =
            LookedUp.interned-row end _ _ (reached lent) b x xs e
            ∙ ap (λ (g : Bool). Ok (symbol_of (record { 0 = x.id }) (hidden_by g (rows (x ∷ xs)) (joined_in (rows (x ∷ xs)) (first_by_rank g x.row (rows xs)))))) (call-profile (intern b) end ∙ profile ks)

        pub lookup-interned-none : accepted_adds id_now ≡ [] → call_left (get_global (record { 0 = id_now })) (call_next (intern b) end) ≡ not_found 23 0
        lookup-interned-none = LookedUp.interned-none end _ _ (reached lent) b

      -- "never forgets a global name": once its row is removed it gives 21 at the name, after any calls
      pub lookup-removed : (n : ℕ) (x : Entry) (xs : List Entry) → accepted_adds n ≡ x ∷ xs → call_number (remove (record { 0 = x.id })) end ≡ 0 → (ls : List Call)
          → call_left (get_global (record { 0 = n })) (run_calls ls (call_next (remove (record { 0 = x.id })) end)) ≡ not_found 21 n
      lookup-removed n x xs e ok ls =
          let r = demand-3a n x xs e in
          LookedUp.removed-global end _ (lasting ks lent) (ready ks lent) (record { 0 = x.id }) ok ls n r.issued r.id (λ z. omega (arith, r.real, z))

      -- every id that was given out has its row
      pub get_present : (i : SymbolId) → i.0 < end.table.link.symbols → call_left (get i) end ≡ Ok (symbol_at end.table.symbols i)
      get_present i h =
          LookedUp.got-present end _ (lasting ks lent) (ready ks lent) i h
          (calls-whole ks start quiet (inv-ready start.table [] (new-inv key gabi bytes names symbols sections new)) (new-whole key gabi bytes names symbols sections new) i.0 h)

      -- "A local `Section` row becomes its section's symbol, the last one winning"; "A section without a symbol answers "none""
      pub section-last : (y : SectionId) (i : SymbolId) → (call_left (section_symbol y) end ≡ Some i) ↔ LastOf end y i
      section-last =
          SectionSymbolsLaws.last_of start (SectionSymbolsLaws.new-fresh key gabi bytes names symbols sections new) start-ready start-shown ks quiet _ (lasting ks lent) (ready ks lent)

      pub section-none : (y : SectionId) → (call_left (section_symbol y) end ≡ None) ↔ ((i : SymbolId) → LocalSection end y i → ⊥)
      section-none =
          SectionSymbolsLaws.none_of start (SectionSymbolsLaws.new-fresh key gabi bytes names symbols sections new) start-ready start-shown ks quiet _ (lasting ks lent) (ready ks lent)

    -- ---- "Under as-needed, an unneeded library answers "not needed" and changes nothing"

    module _ (o : Shared.Input) (marks : List ℕ) where
      -- "it defines, global or weak, a name undefined and strong in the table, or one that an earlier loaded library, not listing it as a dependency,
      -- names by an undefined symbol of binding 1, since defined or not": by the link's rows; what those of loaded libraries have is in
      -- library-remembered and library-named
      abbrev pub IsNeeded : Type 0
      IsNeeded = Needed end.table.link end.table.bytes end.table.names end.table.symbols end.inputs end.lists o.entries o.image (Shared.name_of o)

      pub not-needed-only : (call_left (load o marks) end).answer ≡ Ok NotNeeded
          → ((Shared.head_in o (library_in end marks)).number ≡ 0) × (o.asneeded ≡ true) × (IsNeeded → ⊥)
      not-needed-only = Unneeded.not-needed-only o (library_in end marks)

      pub not-needed-all : (Shared.head_in o (library_in end marks)).number ≡ 0 → o.asneeded ≡ true → (IsNeeded → ⊥)
          → (call_left (load o marks) end).answer ≡ Ok NotNeeded
      not-needed-all = Unneeded.not-needed-all o (library_in end marks)

    -- ---- "Let an index name m members; then its walk over such a link"

    -- a name is undefined in the link just if it has accepted adds, and the content that they give it is undefined
    pub undefined-name : (b : List ℕ) (x : Entry) (xs : List Entry) → accepted_adds (find (store end.table) b) ≡ x ∷ xs
        → undefined_name (view_in end.table) b ≡ is_undefined_row (first_by_rank gabi x.row (rows xs))
    undefined-name b x xs e =
        UndefinedLaws.undefined-name end.table _ held b x xs e ∙ ap (λ (g : Bool). is_undefined_row (first_by_rank g x.row (rows xs))) (profile ks)

    pub undefined-none : (b : List ℕ) → accepted_adds (find (store end.table) b) ≡ [] → undefined_name (view_in end.table) b ≡ false
    undefined-none = UndefinedLaws.undefined-none end.table _ held

    -- the symbols accepted under a name
    abbrev pub symbols_under : List ℕ → List Sym
    symbols_under = Undefined.symbols_under end.table (log_calls ks start)

    -- in the gABI's terms: a name is undefined just if it is wanted from an archive, or has weak references only
    pub undefined-is : (b : List ℕ) → undefined_name (view_in end.table) b ≡ wants (symbols_under b) || weak_references (symbols_under b)
    undefined-is = UndefinedLaws.undefined-is end.table _ held

    -- whichever symbols the rows mean
    pub undefined-wanted : (b : List ℕ) (x : Entry) (xs : List Entry) → accepted_adds (find (store end.table) b) ≡ x ∷ xs
        → (s : Sym) (ss : List Sym) → AllMean (rows (x ∷ xs)) (s ∷ ss)
        → undefined_name (view_in end.table) b ≡ wants (s ∷ ss) || weak_only (s ∷ ss)
    undefined-wanted = UndefinedLaws.undefined-wanted end.table _ held

    -- the content of a name is global or weak
    of-name : gabi ≡ true → (n : ℕ) (x : Entry) (xs : List Entry) → accepted_adds n ≡ x ∷ xs → OfName (first_by_rank true x.row (rows xs))
    of-name p n x xs e =
        subst (λ (g : Bool). OfName (first_by_rank g x.row (rows xs))) p (Ties.calls-of-name (first_by_rank gabi x.row (rows xs)) ks start [] (contents n x xs e))

    -- the names that tie members of an archive. In the old profile the undefined ones: "Weak references pull members"
    pub ties-old : gabi ≡ false → (b : List ℕ) → tied_name (view_in end.table) b ≡ wants (symbols_under b) || weak_references (symbols_under b)
    ties-old old b = tied-old (view_in end.table) b (profile ks ∙ old) ∙ undefined-is b

    -- in the gABI's those that the gABI wants
    pub ties-is : gabi ≡ true → (b : List ℕ) → tied_name (view_in end.table) b ≡ wants (symbols_under b)
    ties-is p b = Ties.ties-is end.table _ held (profile ks ∙ p) b (of-name p _)

    -- whichever symbols the rows mean
    pub ties-wanted : gabi ≡ true → (b : List ℕ) (x : Entry) (xs : List Entry) → accepted_adds (find (store end.table) b) ≡ x ∷ xs
        → (s : Sym) (ss : List Sym) → AllMean (rows (x ∷ xs)) (s ∷ ss) → tied_name (view_in end.table) b ≡ wants (s ∷ ss)
    ties-wanted p b x xs e = Ties.ties-wanted end.table _ held (profile ks ∙ p) b x xs e (of-name p _ x xs e)

    module _ (walk_key : ℕ) (archives : Archives) (cells : List ℕ) (begun : call_number (archive_start walk_key archives cells) end ≡ 0) where
      -- its calls for the next member stand anywhere: the history goes on in parts, with such a call behind each (with_walk). "makes at most m + 1
      -- passes, each pass offers exactly the members not yet offered that the index ties to a name undefined at its start, and no name undefined
      -- at the last pass is tied to an unoffered member" (bound, pass, last; the tables are the link's at those calls); in the gABI profile "undefined and strong"
      -- (ties-old, ties-is)
      pub demand-3b : (kss : List (List Call)) → Walked archives (tables_at kss end) (walk_after archives kss (start_run walk_key archives cells) end)
      demand-3b = WalkInLaws.walked-in archives walk_key cells begun end

      -- the same as one equation of lists, by members' offsets: what one pass offered, behind what was offered before it, are the members that the index ties
      -- to a name that ties in the link at its first call, in first-seen order, without those offered before. The call behind the parts kss and the
      -- calls ks makes the pass, those behind the parts lss none, and then it is over: the walk is done, or the next call makes another pass
      pub exactly-3b : (kss : List (List Call)) (ks : List Call) (lss : List (List Call))
          → let before = WalkIn.run_before archives walk_key cells begun end kss ks lss in
          let link = WalkIn.link_then archives walk_key cells begun end kss ks lss in
          let then = WalkIn.run_then archives walk_key cells begun end kss ks lss in
          let after = WalkIn.run_after archives walk_key cells begun end kss ks lss in
          then.walk.passes ≡ before.walk.passes + 1 → after.walk.passes ≡ then.walk.passes → Over walk_key archives cells begun after
          → offered archives after ≡ offered archives before ++ without (offered archives before) (first_seen (tied_members archives (view_in link.table)))
      exactly-3b = WalkInLaws.pass-in archives walk_key cells begun end

      -- "walks don't change a link": the history with its calls leads where the history without them does
      pub walk-aside : (kss : List (List Call)) → run_calls (with_walk archives kss (start_run walk_key archives cells) end) end ≡ run_calls (joined kss) end
      walk-aside kss = WalksLaws.walk-aside archives kss (start_run walk_key archives cells) end

      -- against the gABI: one more call for the next member, over this link, that makes a pass. The walk's earlier calls were lent whatever tables; where
      -- they stand in the history, those are tables_at, and before is walk_after (walk-is, Walks.antt). The member of entry e, not offered before, is this
      -- object; the index lists its global and weak definitions, as an archive's index does
      module _ (ts : List Table) where
        abbrev pub before : Run
        before = history archives ts (start_run walk_key archives cells)

        abbrev pub stepped : Run
        stepped = next_in archives before end

        module _ (made : stepped.walk.passes ≡ before.walk.passes + 1) (e : ℕ) (low : e < entries_in archives) (unoffered : among archives e before.offers ≡ false)
            (headers entries file : List ℕ) (listed : (x : List ℕ) → in_index archives e x ≡ Taken.lists (member_of headers entries file) x) where
          abbrev pub member : List Named
          member = member_of headers entries file

          -- the pass queues it to be offered, and admission over its required names says yes
          abbrev pub chosen : Bool
          chosen = Extraction.chosen_in gabi archives stepped e headers entries file

          -- the names that the gABI wants by the symbols accepted under them, as a list; wanted-names has one for every member
          module _ (wanted : List (List ℕ)) (same : (x : List ℕ) → Taken.lists member x ≡ true → Strings.among x wanted ≡ wants (symbols_under x)) where
            -- the old profile: the member is chosen where the gABI extracts it, but for the two known places: "a weak definition doesn't admit one", "Weak
            -- references pull members"
            pub extraction-differs : gabi ≡ false → chosen || weak_offers wanted member ≡ extracts member wanted || taken (λ x. weak_references (symbols_under x)) member
            extraction-differs old =
                ap (λ (g : Bool). Extraction.chosen_in g archives stepped e headers entries file || weak_offers wanted member) old
                ∙ ExtractionLaws.differences end _ held walk_key archives cells begun ts made e low unoffered headers entries file listed (profile ks ∙ old) wanted same

            -- so without these just where the gABI extracts it
            pub extraction-agrees : gabi ≡ false → weak_offers wanted member ≡ false → taken (λ x. weak_references (symbols_under x)) member ≡ false
                → chosen ≡ extracts member wanted
            extraction-agrees old d r =
                ap (λ (g : Bool). Extraction.chosen_in g archives stepped e headers entries file) old
                ∙ ExtractionLaws.agrees end _ held walk_key archives cells begun ts made e low unoffered headers entries file listed (profile ks ∙ old) wanted same d r

            -- the gABI's profile: just where the gABI extracts it
            pub extraction-gabi : gabi ≡ true → chosen ≡ extracts member wanted
            extraction-gabi p =
                ap (λ (g : Bool). Extraction.chosen_in g archives stepped e headers entries file) p
                ∙ ExtractionLaws.agrees-gabi end _ held walk_key archives cells begun ts made e low unoffered headers entries file listed (profile ks ∙ p) (of-name p) wanted same

          pub wanted-names : (x : List ℕ) → Taken.lists member x ≡ true
              → Strings.among x (wanted_names (λ y. wants (symbols_under y)) member) ≡ wants (symbols_under x)
          wanted-names = ExtractionLaws.own-names end _ held walk_key archives cells begun ts made e low unoffered headers entries file listed

        -- what `matches` itself answers about it, after the pass, and if it is queued after any further calls: exactly what the gABI extracts, but in the old
        -- profile for the two known places, each a term: only_weakly_offered, pulled_weakly. The object's fields are in range; its symbols in document 01's
        -- words. It may be asked by any link of the profile
        module _ (made : stepped.walk.passes ≡ before.walk.passes + 1) (e : ℕ) (low : e < entries_in archives) (unoffered : among archives e before.offers ≡ false)
            (headers entries contents file : List ℕ) (ranged : (Elf.judge_of headers entries (length contents) (length file)).number ≡ 0)
            (listed : (x : List ℕ) → in_index archives e x ≡ Taken.lists (symbols_of headers entries file) x) where
          module _ (wanted : List (List ℕ)) (same : (x : List ℕ) → Taken.lists (symbols_of headers entries file) x ≡ true → Strings.among x wanted ≡ wants (symbols_under x)) where
            pub matches-exactly : gabi ≡ false → (on : Linked) → on.table.link.gabi ≡ gabi → answer_in headers entries contents file archives.bytes stepped e on
                ≡ says (admitted wanted (λ x. weak_references (symbols_under x)) (symbols_of headers entries file))
            matches-exactly old on asks =
                Admitted.matches-is end _ held walk_key archives cells begun ts made e low unoffered headers entries contents file ranged listed wanted same (profile ks ∙ old) on (asks ∙ old)

            pub matches-stays : gabi ≡ false → among archives e (queue_in stepped) ≡ true → (us : List Table) (on : Linked) → on.table.link.gabi ≡ gabi
                → answer_in headers entries contents file archives.bytes (history archives us stepped) e on
                ≡ says (admitted wanted (λ x. weak_references (symbols_under x)) (symbols_of headers entries file))
            matches-stays old q us on asks =
                Admitted.matches-later end _ held walk_key archives cells begun ts made e low unoffered headers entries contents file ranged listed wanted same (profile ks ∙ old) on (asks ∙ old) q us

            -- the gABI's profile
            pub matches-gabi : gabi ≡ true → (on : Linked) → on.table.link.gabi ≡ gabi
                → answer_in headers entries contents file archives.bytes stepped e on ≡ says (extracts (symbols_of headers entries file) wanted)
            matches-gabi p on asks =
                Admitted.matches-gabi end _ held walk_key archives cells begun ts made e low unoffered headers entries contents file ranged listed wanted same (profile ks ∙ p) (of-name p) on (asks ∙ p)

            pub matches-gabi-stays : gabi ≡ true → among archives e (queue_in stepped) ≡ true → (us : List Table) (on : Linked) → on.table.link.gabi ≡ gabi
                → answer_in headers entries contents file archives.bytes (history archives us stepped) e on ≡ says (extracts (symbols_of headers entries file) wanted)
            matches-gabi-stays p q us on asks =
                Admitted.matches-gabi-later end _ held walk_key archives cells begun ts made e low unoffered headers entries contents file ranged listed wanted same (profile ks ∙ p) (of-name p) on
                (asks ∙ p) q us

          -- a member that is let in was queued by the pass, so it is offered
          pub let-in-queued : (on : Linked) → answer_in headers entries contents file archives.bytes stepped e on ≡ Ok true → among archives e (queue_in stepped) ≡ true
          let-in-queued = Admitted.let-in-queued end _ held walk_key archives cells begun ts made e low unoffered headers entries contents file ranged listed

          pub wanted-own : (x : List ℕ) → Taken.lists (symbols_of headers entries file) x ≡ true
              → Strings.among x (wanted_names (λ y. wants (symbols_under y)) (symbols_of headers entries file)) ≡ wants (symbols_under x)
          wanted-own = Admitted.own-names end _ held walk_key archives cells begun ts made e low unoffered headers entries contents file ranged listed

      module _ (lent : length lists ≤ not_lent) where
        -- no such call is refused, whatever tables the walk's earlier ones were lent: no 1, and no 21, since no row was removed
        pub walk-goes : (ts : List Table)
            → let r = history archives ts (start_run walk_key archives cells) in
            call_number (archive_next archives r.cells r.walk) end ≡ 0
        walk-goes = WalkInLaws.next-goes archives walk_key cells begun end _ _ (reached lent)

        -- and it ends: of m + 1 calls the last answers "done"
        pub walk_ends : (kss : List (List Call)) → RemovesNothing (with_walk archives kss (start_run walk_key archives cells) end) end → members archives (entries_in archives) < length kss
            → (walk_after archives kss (start_run walk_key archives cells) end).walk.done ≡ true
        walk_ends = WalkInLaws.walk-done archives walk_key cells begun end _ _ (reached lent)

    -- ---- "Collection, unless refused, keeps exactly what relocations reach from the roots"

    module _ (marks : List ℕ) (entry : Option SymbolId) (work : List ℕ) where
      abbrev pub answer : Result Dropped Refusal
      answer = (call_left (collect marks entry work) end).answer

      pub demand-3c : (a b : ℕ) → answer ≡ Ok (dropped a b)
          → Collected.Kept end.table.link (lists_in end marks) end.table.symbols end.table.sections entry work
      demand-3c = CollectionLaws.keeps end.table.link (lists_in end marks) end.table.symbols end.table.sections entry work

      -- "Dropped sections go by ascending id, their symbols' rows with them"
      pub removes : (a b : ℕ) → answer ≡ Ok (dropped a b)
          → Collected.Removed end.table.link (lists_in end marks) end.table.symbols end.table.sections entry work
      removes = CollectionLaws.removes end.table.link (lists_in end marks) end.table.symbols end.table.sections entry work

      -- "Of sections reached but not built, the lowest gives 21"
      pub refuses : (k : ℕ) → answer ≡ Err (refused 21 k)
          → Collected.Lowest end.table.link (lists_in end marks) end.table.symbols end.table.sections entry work k
      refuses = CollectionLaws.refuses end.table.link (lists_in end marks) end.table.symbols end.table.sections entry work

      -- request 2026-12: the plain collection keeps "the same sections and rows as the first, or refuses with the same number and place"
      pub plain-agrees : built_rows end.table.link end.table.sections ≤ 256
          → Agrees end.table.link.sections (call_left (plain_collect marks entry work) end) (call_left (collect marks entry work) end)
      plain-agrees = Plain.plain-agrees end.table.link (lists_in end marks) end.table.symbols end.table.sections entry work
