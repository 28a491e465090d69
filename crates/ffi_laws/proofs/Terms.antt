-- The statements about the exported calls. "That its contract admits no second outcome" (document 01, acceptance a): what a caller in another language
-- sees of one is the number that it returns, its header and every cell lent to be written; the contracts are the predicates that stand in the `ensures` of
-- `hidvorn`, and two exits that meet one are equal. Then, what a call replies is what it says.
-- Assumes nothing.
use Rattle.archive_index.specs.Archives.{Archives}
use Rattle.archive_walk.specs.declared.Offer.{Offer}
use Rattle.link.specs.declared.Link.{Link}
use Rattle.link.specs.declared.SymbolId.{SymbolId}
use Rattle.link.specs.declared.cause.Refusal.{Refusal}
use Rattle.symbol.specs.declared.Symbol.{Symbol}
use Rattle.std.specs.Prelude.{ℕ, ◌≡◌, ◌<◌, ◌≤◌, Bool, false, List, ◌≢◌, get_or, length, Option, Result, Ok, Err}
use Rattle.std.proofs.Common.{sym, ap, ◌∙◌}
use Rattle.byte_slices.specs.Bytes.{part}
use Rattle.interner.specs.Names.{store_of}
use Rattle.interner.specs.Calls.{Resolved, resolve_of}
use Rattle.symbols.specs.Lookup as Said
use Rattle.archive_walk.specs.Walk.{begun_said, offer_said}
use Rattle.object_requirement.specs.Matches as Matches
use Rattle.section_groups.specs.Group as Group
use Rattle.merge_stages.specs.Stages as Stages
use Rattle.shared_objects.specs.Load.{Input}
use Rattle.gc_sections.specs.Run.{Lists}
use Rattle.ffi_cells.specs.declared.header.Reply.{Reply}
use Rattle.ffi_cells.specs.Header.{is_short, link_in, refusal_of, Told, told, tell_of, answer_of}
use Rattle.ffi_cells.specs.Contract.{ToldExit}
use Rattle.ffi_names.specs.Calls as NamesCalls
use Rattle.ffi_names.specs.Contract as Names
use Rattle.ffi_symbols.specs.Calls as SymbolsCalls
use Rattle.ffi_symbols.specs.Contract as Symbols
use Rattle.ffi_list.specs.Calls as ListCalls
use Rattle.ffi_list.specs.Contract as Adds
use Rattle.ffi_symbols.specs.LookupCalls as LookupCalls
use Rattle.ffi_symbols.specs.LookupContract as Lookup
use Rattle.elf_file.specs.declared.counts.Counts.{Counts}
use Rattle.ffi_merge.specs.Calls as MergeCalls
use Rattle.ffi_merge.specs.Contract as Merge
use Rattle.ffi_merge.specs.FileCalls as FileCalls
use Rattle.ffi_merge.specs.FileContract as File
use Rattle.preview.specs.Preview.{Tables}
use Rattle.ffi_preview.specs.Calls as PreviewCalls
use Rattle.ffi_preview.specs.Contract as Preview
use Rattle.lot_report.specs.declared.Figures.{Figures}
use Rattle.lot_report.specs.declared.Report.{Report}
use Rattle.ffi_report.specs.Calls as ReportCalls
use Rattle.ffi_report.specs.Contract as TitleContract
use Rattle.ffi_load.specs.Calls as LoadCalls
use Rattle.ffi_load.specs.Contract as Load
use Rattle.ffi_archive.specs.Calls as ArchiveCalls
use Rattle.ffi_archive.specs.Contract as Archive
use Rattle.ffi_collect.specs.Calls as CollectCalls
use Rattle.ffi_collect.specs.Contract as Collect
use Rattle.ffi_laws.specs.Exits.{MergeExit, merge_rows, PreviewExit, preview_rows, FileExit, file_lent, LoadExit, load_rows}
use Rattle.ffi_laws.specs.Replies.{Holds, Replies, offer_cells, some_id, symbols_out}
use Rattle.ffi_laws.proofs.Replies as RepliesLaws

-- ---- calls that write the header alone

told-one : (z : Told) (x y : ToldExit) → told x.number x.header ≡ z → told y.number y.header ≡ z → x ≡ y
told-one z x y e f = ap {B = ToldExit} (λ (o : Told). record { number = o.number; header = o.header }) (e ∙ sym f)

module _ (h : List ℕ) (x y : ToldExit) where
  pub resolve-one-outcome : (bytes names : List ℕ) (id : ℕ) → Names.ResolveMeets h bytes names id x → Names.ResolveMeets h bytes names id y → x ≡ y
  resolve-one-outcome bytes names id e f = told-one (NamesCalls.resolve_call h bytes names id) x y e f

  pub find-one-outcome : (bytes names name : List ℕ) → Names.FindMeets h bytes names name x → Names.FindMeets h bytes names name y → x ≡ y
  find-one-outcome bytes names name e f = told-one (NamesCalls.find_call h bytes names name) x y e f

  pub section-symbol-one-outcome : (sections : List ℕ) (section : ℕ) → Lookup.SectionSymbolMeets h sections section x → Lookup.SectionSymbolMeets h sections section y → x ≡ y
  section-symbol-one-outcome sections section e f = told-one (LookupCalls.section_symbol_call h sections section) x y e f

  pub matches-one-outcome : (walk index rows : List ℕ) (entry : ℕ) (headers entries contents file : List ℕ) → Archive.MatchesMeets h walk index rows entry headers entries contents file x
      → Archive.MatchesMeets h walk index rows entry headers entries contents file y → x ≡ y
  matches-one-outcome walk index rows entry headers entries contents file e f =
      told-one (ArchiveCalls.matches_call h walk index rows entry headers entries contents file) x y e f

-- ---- the others

-- intern
pub intern-one-outcome : (h bytes names name : List ℕ) (x y : Names.InternExit) → Names.InternMeets h bytes names name x → Names.InternMeets h bytes names name y → x ≡ y
intern-one-outcome h bytes names name x y e f = ap {B = Names.InternExit} (λ (o : NamesCalls.InternLeft). record { number = o.told.number; header = o.told.header; bytes = o.bytes; names = o.names }) (e ∙ sym f)

-- new
pub new-one-outcome : (h : List ℕ) (key profile : ℕ) (bytes names symbols sections : List ℕ) (x y : Symbols.NewExit) → Symbols.NewMeets h key profile bytes names symbols sections x
    → Symbols.NewMeets h key profile bytes names symbols sections y → x ≡ y
new-one-outcome h key profile bytes names symbols sections x y e f = ap {B = Symbols.NewExit} (λ (o : SymbolsCalls.NewLeft). record { number = o.told.number; header = o.told.header; bytes = o.bytes; names = o.names; symbols = o.symbols; sections = o.sections }) (e ∙ sym f)

-- add
pub add-one-outcome : (h names symbols sections conversion item : List ℕ) (x y : Symbols.AddExit) → Symbols.AddMeets h names symbols sections conversion item x
    → Symbols.AddMeets h names symbols sections conversion item y → x ≡ y
add-one-outcome h names symbols sections conversion item x y e f = ap {B = Symbols.AddExit} (λ (o : SymbolsCalls.AddLeft). record { number = o.told.number; header = o.told.header; names = o.names; symbols = o.symbols; sections = o.sections }) (e ∙ sym f)

-- add_list
pub add-list-one-outcome : (h names symbols sections conversion adds ids : List ℕ) (x y : Adds.ListExit) → Adds.ListMeets h names symbols sections conversion adds ids x
    → Adds.ListMeets h names symbols sections conversion adds ids y → x ≡ y
add-list-one-outcome h names symbols sections conversion adds ids x y e f = ap {B = Adds.ListExit} (λ (o : ListCalls.ListLeft). record { number = o.told.number; header = o.told.header; names = o.names; symbols = o.symbols; sections = o.sections; ids = o.ids }) (e ∙ sym f)

-- remove
pub remove-one-outcome : (h symbols sections : List ℕ) (id : ℕ) (x y : Symbols.RemoveExit) → Symbols.RemoveMeets h symbols sections id x → Symbols.RemoveMeets h symbols sections id y → x ≡ y
remove-one-outcome h symbols sections id x y e f = ap {B = Symbols.RemoveExit} (λ (o : SymbolsCalls.RemoveLeft). record { number = o.told.number; header = o.told.header; symbols = o.symbols; sections = o.sections }) (e ∙ sym f)

-- get, get_global
found-one : (z : LookupCalls.FoundLeft) (x y : Lookup.FoundExit) → LookupCalls.found_left (told x.number x.header) x.out ≡ z → LookupCalls.found_left (told y.number y.header) y.out ≡ z → x ≡ y
found-one z x y e f = ap {B = Lookup.FoundExit} (λ (o : LookupCalls.FoundLeft). record { number = o.told.number; header = o.told.header; out = o.out }) (e ∙ sym f)

module _ (h out : List ℕ) (x y : Lookup.FoundExit) where
  pub get-one-outcome : (symbols : List ℕ) (id : ℕ) → Lookup.GetMeets h symbols id out x → Lookup.GetMeets h symbols id out y → x ≡ y
  get-one-outcome symbols id e f = found-one (LookupCalls.get_call h symbols id out) x y e f

  pub get-global-one-outcome : (names symbols : List ℕ) (name : ℕ) → Lookup.GetGlobalMeets h names symbols name out x → Lookup.GetGlobalMeets h names symbols name out y → x ≡ y
  get-global-one-outcome names symbols name e f = found-one (LookupCalls.get_global_call h names symbols name out) x y e f

-- add_group
pub group-one-outcome : (h : List ℕ) (o : Group.Object) (bytes names work : List ℕ) (n : ℕ) (x y : Merge.GroupExit) → Merge.GroupMeets h o bytes names work n x → Merge.GroupMeets h o bytes names work n y → x ≡ y
group-one-outcome h o bytes names work n x y e f = ap {B = Merge.GroupExit} (λ (o : MergeCalls.GroupLeft). record { number = o.told.number; header = o.told.header; bytes = o.bytes; names = o.names; work = o.work }) (e ∙ sym f)

-- merge_elf
pub merge-one-outcome : (h : List ℕ) (o : Stages.Object) (c : MergeCalls.Rows) (x y : MergeExit) → Merge.MergeMeets h o (merge_rows c x) x.told → Merge.MergeMeets h o (merge_rows c y) y.told → x ≡ y
merge-one-outcome h o c x y e f = ap {B = MergeExit} (λ (o : MergeCalls.MergeLeft). record { told = record { number = o.told.number; header = o.told.header }; rows = o.rows }) (e ∙ sym f)

-- preview_elf
pub preview-one-outcome : (h c : List ℕ) (o : Stages.Object) (t : Tables) (r : MergeCalls.Rows) (x y : PreviewExit)
    → Preview.PreviewMeets h c o t (preview_rows r x) x.exit → Preview.PreviewMeets h c o t (preview_rows r y) y.exit → x ≡ y
preview-one-outcome h c o t r x y e f =
    ap {B = PreviewExit} (λ (o : PreviewCalls.PreviewLeft). record { exit = record { number = o.told.number; header = o.told.header; copy = o.copy }; rows = o.rows }) (e ∙ sym f)

-- count_file, read_file and merge_file
pub count-one-outcome : (a file : List ℕ) (x y : FileCalls.CountLeft) → File.CountMeets a file x → File.CountMeets a file y → x ≡ y
count-one-outcome a file x y e f = e ∙ sym f

pub read-one-outcome : (a file rows : List ℕ) (x y : File.ReadExit) → File.ReadMeets a file rows x → File.ReadMeets a file rows y → x ≡ y
read-one-outcome a file rows x y e f = ap {B = File.ReadExit} (λ (o : FileCalls.ReadLeft). record { number = o.number; answer = o.answer; rows = o.rows }) (e ∙ sym f)

pub file-one-outcome : (h file : List ℕ) (c : FileCalls.Lent) (x y : FileExit) → File.FileMeets h file (file_lent c x) x.told → File.FileMeets h file (file_lent c y) y.told → x ≡ y
file-one-outcome h file c x y e f = ap {B = FileExit} (λ (o : FileCalls.FileLeft). record { told = record { number = o.told.number; header = o.told.header }; lent = o.lent }) (e ∙ sym f)

-- load_shared_object
pub load-one-outcome : (h : List ℕ) (o : Input) (c : LoadCalls.Rows) (x y : LoadExit) → Load.LoadMeets h o (load_rows c x) x.told → Load.LoadMeets h o (load_rows c y) y.told → x ≡ y
load-one-outcome h o c x y e f = ap {B = LoadExit} (λ (o : LoadCalls.LoadLeft). record { told = record { number = o.told.number; header = o.told.header }; rows = o.rows }) (e ∙ sym f)

-- start and next of a walk
walk-one : (z : ArchiveCalls.WalkLeft) (x y : Archive.WalkExit) → ArchiveCalls.walk_left (told x.number x.header) x.walk x.rows ≡ z → ArchiveCalls.walk_left (told y.number y.header) y.walk y.rows ≡ z → x ≡ y
walk-one z x y e f = ap {B = Archive.WalkExit} (λ (o : ArchiveCalls.WalkLeft). record { number = o.told.number; header = o.told.header; walk = o.walk; rows = o.rows }) (e ∙ sym f)

module _ (h walk : List ℕ) (x y : Archive.WalkExit) where
  pub start-one-outcome : (key : ℕ) (archives : Archives) (rows : List ℕ) → Archive.StartMeets h walk key archives rows x → Archive.StartMeets h walk key archives rows y → x ≡ y
  start-one-outcome key archives rows e f = walk-one (ArchiveCalls.start_call h walk key archives rows) x y e f

  pub next-one-outcome : (archives : Archives) (rows bytes names symbols : List ℕ) → Archive.NextMeets h walk archives rows bytes names symbols x
      → Archive.NextMeets h walk archives rows bytes names symbols y → x ≡ y
  next-one-outcome archives rows bytes names symbols e f = walk-one (ArchiveCalls.next_call h walk archives rows bytes names symbols) x y e f

pub shadowed-one-outcome : (h walk index rows bytes names symbols cells : List ℕ) (x y : Archive.ShadowedExit) → Archive.ShadowedMeets h walk index rows bytes names symbols cells x
    → Archive.ShadowedMeets h walk index rows bytes names symbols cells y → x ≡ y
shadowed-one-outcome h walk index rows bytes names symbols cells x y e f =
    ap {B = Archive.ShadowedExit} (λ (o : ArchiveCalls.ShadowedLeft). record { number = o.told.number; header = o.told.header; cells = o.cells }) (e ∙ sym f)

pub would-one-outcome : (h bytes names symbols headers entries contents file cells : List ℕ) (x y : Archive.WouldExit) → Archive.WouldMeets h bytes names symbols headers entries contents file cells x
    → Archive.WouldMeets h bytes names symbols headers entries contents file cells y → x ≡ y
would-one-outcome h bytes names symbols headers entries contents file cells x y e f =
    ap {B = Archive.WouldExit} (λ (o : ArchiveCalls.WouldLeft). record { number = o.told.number; header = o.told.header; cells = o.cells }) (e ∙ sym f)

-- a collection
pub run-one-outcome : (h : List ℕ) (c : Lists) (symbols sections : List ℕ) (entry : Option SymbolId) (work : List ℕ) (x y : Collect.RunExit) → Collect.RunMeets h c symbols sections entry work x
    → Collect.RunMeets h c symbols sections entry work y → x ≡ y
run-one-outcome h c symbols sections entry work x y e f = ap {B = Collect.RunExit} (λ (o : CollectCalls.RunLeft). record { number = o.told.number; header = o.told.header; symbols = o.symbols; sections = o.sections; work = o.work }) (e ∙ sym f)

-- a plain collection
pub plain-one-outcome : (h : List ℕ) (c : Lists) (symbols sections : List ℕ) (entry : Option SymbolId) (work : List ℕ) (x y : Collect.RunExit) → Collect.PlainMeets h c symbols sections entry work x
    → Collect.PlainMeets h c symbols sections entry work y → x ≡ y
plain-one-outcome h c symbols sections entry work x y e f = ap {B = Collect.RunExit} (λ (o : CollectCalls.RunLeft). record { number = o.told.number; header = o.told.header; symbols = o.symbols; sections = o.sections; work = o.work }) (e ∙ sym f)

-- a title of a report
pub report-one-outcome : (h walk symbols sections report figures : List ℕ) (x y : ReportCalls.TitleLeft)
    → TitleContract.TitleMeets h walk symbols sections report figures x → TitleContract.TitleMeets h walk symbols sections report figures y → x ≡ y
report-one-outcome h walk symbols sections report figures x y e f = e ∙ sym f

-- ---- a call replies what it says: number, place and values, told case by case

pub found-reply : (h out : List ℕ) (f : Result Symbol Refusal)
    → LookupCalls.found_of h out f ≡ LookupCalls.found_left (answer_of h (refusal_of (Said.said f).number (Said.said f).place)) (symbols_out out (Said.said f).values)
found-reply = RepliesLaws.found-reply

pub section-symbol-reply : (x : Option SymbolId)
    → Replies (LookupCalls.section_symbol_reply x) (Said.section_symbol_said x).number (Said.section_symbol_said x).place (some_id (Said.section_symbol_said x).values)
section-symbol-reply = RepliesLaws.section-symbol-reply

pub begun-reply : (x : Result ℕ Refusal) → Replies (ArchiveCalls.begun_reply x) (begun_said x).number (begun_said x).place (begun_said x).values
begun-reply = RepliesLaws.begun-reply

pub offer-reply : (x : Result Offer Refusal) → Replies (ArchiveCalls.offered_reply x) (offer_said x).number (offer_said x).place (offer_cells (offer_said x).values)
offer-reply = RepliesLaws.offer-reply

pub admission-reply : (x : Result Bool Refusal) → Replies (ArchiveCalls.admitted_reply x) (Matches.said x).number (Matches.said x).place (Matches.said x).values
admission-reply = RepliesLaws.admission-reply

-- `count_file`: the number, and the answer's cells
module _ (a : List ℕ) (room : 8 ≤ length a) where
  pub counts-reply : (c : Counts) → let told = FileCalls.count_told a (Ok c) in
      (told.number ≡ 0) × (get_or told.answer 1 0 ≡ c.sections) × (get_or told.answer 2 0 ≡ c.symbols) × (get_or told.answer 3 0 ≡ c.relocations)
      × (get_or told.answer 4 0 ≡ c.listed) × (get_or told.answer 5 0 ≡ c.work_rows)
  counts-reply = RepliesLaws.counts-reply a room

  pub count-refusal : (r : Refusal) → let told = FileCalls.count_told a (Err r) in (told.number ≡ r.number) × (get_or told.answer 0 0 ≡ r.place)
  count-refusal = RepliesLaws.count-refusal a room

-- a title: a refusal leaves the report's cells and the line's; else the report that is handed back is read there again, and the line stands in its cells
module _ (h : List ℕ) where
  pub title-refusal : (walk symbols sections report figures : List ℕ) → (ReportCalls.title_call h walk symbols sections report figures).told.number ≢ 0
      → ((ReportCalls.title_call h walk symbols sections report figures).report ≡ report) × ((ReportCalls.title_call h walk symbols sections report figures).figures ≡ figures)
  title-refusal = RepliesLaws.title-refusal h

  module _ (report figures : List ℕ) (roomy : 14 ≤ length report) (wide : 13 ≤ length figures) (r : Report) (f : Figures) (totals : length r.totals.0 ≡ 13)
      (line : length f.0 ≡ 13) where
    abbrev title_line : ReportCalls.TitleLeft
    title_line = ReportCalls.title_told h report figures r (Ok f)

    pub title-report : ReportCalls.report_in title_line.report ≡ r
    title-report = RepliesLaws.title-report h report figures roomy wide r f totals line

    pub title-figures : (k : ℕ) → k < 13 → get_or title_line.figures k 0 ≡ get_or f.0 k 0
    title-figures = RepliesLaws.title-figures h report figures roomy wide r f totals line

-- `resolve`: number and place; the part of the lent bytes that the reply tells is the name
module _ (b n : List ℕ) (id : ℕ) (l : Link) where
  abbrev answer : Resolved
  answer = resolve_of (store_of b n l) (record { 0 = id })

  abbrev reply : Reply
  reply = NamesCalls.resolve_reply b n id answer

  pub resolve-refusal : (reply.number ≡ answer.refusal.number) × (answer.refusal.number ≢ 0 → reply.place ≡ answer.refusal.place)
  resolve-refusal = RepliesLaws.resolve-refusal b n id l

  pub resolve-reply : answer.refusal.number ≡ 0 → part b reply.first reply.second ≡ answer.name
  resolve-reply = RepliesLaws.resolve-reply b n id l

-- ---- the reply stands in the header: of a call that doesn't change a link, and of one that does, whose link is read there again

module _ (h : List ℕ) (long : is_short h ≡ false) (r : Reply) where
  pub answer-held : Holds (answer_of h r).header r
  answer-held = RepliesLaws.answer-held h long r

  pub tell-held : (l : Link) → Holds (tell_of h l r).header r
  tell-held = RepliesLaws.tell-held h long r

  pub tell-link : (l : Link) → link_in (tell_of h l r).header ≡ l
  tell-link = RepliesLaws.tell-link h long r
