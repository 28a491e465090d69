-- "The answer to every call is a result or, exactly where document 01's rules in their order give it, one of the refusals": the statements of number and place.
-- specs/CallRules.antt has each call's rules, one list in the documents' order. First every call after any calls, and a walk's by the index' own names; then any call
-- where lists grow and other cells are lent; then `Symbols::new`; then, over any link, a file, a list of adds, the plain collection.
-- Assumes nothing.
use Rattle.std.specs.Prelude.{ℕ, ◌≡◌, Bool, not, List, [], ◌++◌, eqb, Option, true, Err}
use Rattle.std.proofs.Common.{ap, ◌∙◌}
use Rattle.link.specs.declared.SymbolId.{SymbolId}
use Rattle.link.specs.declared.cause.Refusal.{Refusal}
use Rattle.link.specs.Said.{number_in}
use Rattle.symbols.specs.New.{new_of}
use Rattle.archive_index.specs.Archives.{Archives}
use Rattle.archive_walk.specs.Look.{Table}
use Rattle.archive_walk.specs.Walk.{begun_number, start_of}
use Rattle.archive_laws.specs.Runs.{Run, history, start_run}
use Rattle.symbol_laws.specs.History.{opened}
use Rattle.merge_file.specs.MergeFile.{file_head_of}
use Rattle.merge_laws.specs.Marked.{Marked}
use Rattle.merge_laws.proofs.MarkedLemmas.{new-marked}
use Rattle.link.specs.Judge.{refused}
use Rattle.merge_laws.specs.Calls.{Linked, linked, all_in}
use Rattle.add_list.specs.AddList.{items_of}
use Rattle.link_laws.specs.Calls.{Call, archive_next, plain_collect, refusal_by, call_refusal, call_number, run_calls, add_list}
use Rattle.link_laws.specs.Kept.{signatures}
use Rattle.link_laws.proofs.Kept.{calls-marked}
use Rattle.link_laws.specs.Growth.{Turn}
use Rattle.link_laws.specs.ExactLinks as ExactLinks
use Rattle.link_laws.proofs.ExactLinks as ExactLinksLaws
use Rattle.link_laws.specs.Rules.{first_refusal, some_holds}
use Rattle.link_laws.proofs.Rules.{none-holds}
use Rattle.link_laws.specs.CallRules.{rules}
use Rattle.link_laws.proofs.CallExactly.{call-exactly, rules-numbered}
use Rattle.link_laws.specs.ArchiveRules.{indexed_rules}
use Rattle.link_laws.proofs.ArchiveIndexed.{next-indexed}
use Rattle.link_laws.specs.NewRules.{new_rules}
use Rattle.link_laws.proofs.NewExactly as NewExactly
use Rattle.link_laws.specs.FileRules.{file_rules}
use Rattle.link_laws.proofs.FileExactly as FileExactly
use Rattle.merge_stages.specs.Stages as Stages
use Rattle.preview_laws.specs.Shown.{previewed}
use Rattle.preview_laws.proofs.Terms as Previews
use Rattle.merge_elf.specs.Merge.{leave}
use Rattle.link_laws.specs.PreviewRules.{lacks_cells, preview_rules}
use Rattle.link_laws.proofs.PreviewExactly as PreviewExactly
use Rattle.link_laws.specs.ListRules.{list_head, list_rules}
use Rattle.link_laws.proofs.ListExactly as ListExactly
use Rattle.link_laws.specs.CollectRules.{plain_rules}
use Rattle.link_laws.proofs.PlainExactly as PlainExactly

-- ---- any call, after a new table and any calls, those that remove too

module _ (key : ℕ) (gabi : Bool) (bytes names symbols sections inputs lists : List ℕ) (new : number_in (new_of key gabi bytes names symbols sections).said ≡ 0) (ks : List Call) where
  abbrev pub start : Linked
  start = linked (opened (new_of key gabi bytes names symbols sections)) inputs lists

  -- the link after any calls, those that remove too
  abbrev pub on : Linked
  on = run_calls ks start

  marked : Marked on.table (signatures ks start)
  marked = calls-marked ks start [] (new-marked key gabi bytes names symbols sections new)

  -- number and place are those of the first rule that holds
  pub exactly : (k : Call) → call_refusal k on ≡ first_refusal (rules k on)
  exactly k = call-exactly k on (signatures ks start) marked

  -- a result just where none of them holds
  pub accepted : (k : Call) → eqb (call_number k on) 0 ≡ not (some_holds (rules k on))
  accepted k = ap (λ (r : Refusal). eqb r.number 0) (exactly k) ∙ none-holds (rules k on) (rules-numbered k on)

  -- a preview over the link, in cells that are lent as another link's
  pub preview-exactly : (o : Stages.Object) (work ids : List ℕ) (p : Linked) → (previewed o work ids on p).said ≡ first_refusal (preview_rules o work ids on p)
  preview-exactly o work ids p = PreviewExactly.preview-exactly o work ids on p (signatures ks start) marked

  pub preview-accepted : (o : Stages.Object) (work ids : List ℕ) (p : Linked)
      → eqb (previewed o work ids on p).said.number 0 ≡ not (some_holds (preview_rules o work ids on p))
  preview-accepted o work ids p =
      ap (λ (r : Refusal). eqb r.number 0) (preview-exactly o work ids p)
      ∙ none-holds (preview_rules o work ids on p) (PreviewExactly.preview-numbered o work ids on p)

  -- a call of a walk that an accepted start began, after calls over any tables: the same rules, with the index' own names
  module _ (walk_key : ℕ) (archives : Archives) (cells : List ℕ) (begun : begun_number (start_of walk_key archives cells).started.begun ≡ 0) (ts : List Table) where
    abbrev pub walk : Run
    walk = history archives ts (start_run walk_key archives cells)

    pub exactly-next : call_refusal (archive_next archives walk.cells walk.walk) on ≡ first_refusal (indexed_rules on.table archives walk.cells walk.walk)
    exactly-next = exactly (archive_next archives walk.cells walk.walk) ∙ ap first_refusal (next-indexed walk_key archives cells begun ts on.table)

-- ---- the same where lists grew before calls, and where other cells are lent for symbols, sections, inputs and lists than the link's: there the rules of 1 for
-- counts above what is lent arise

module _ (key : ℕ) (gabi : Bool) (bytes names symbols sections inputs lists : List ℕ) (new : number_in (new_of key gabi bytes names symbols sections).said ≡ 0) (ts : List Turn)
    (symbols' sections' inputs' lists' : List ℕ) (k : Call) where
  abbrev lent_any : Linked
  lent_any = ExactLinks.on key gabi bytes names symbols sections inputs lists new ts symbols' sections' inputs' lists'

  pub exactly-any : call_refusal k lent_any ≡ first_refusal (rules k lent_any)
  exactly-any = ExactLinksLaws.exactly-any key gabi bytes names symbols sections inputs lists new ts symbols' sections' inputs' lists' k

  pub accepted-any : eqb (call_number k lent_any) 0 ≡ not (some_holds (rules k lent_any))
  accepted-any = ExactLinksLaws.accepted-any key gabi bytes names symbols sections inputs lists new ts symbols' sections' inputs' lists' k

  -- and of a preview
  pub preview-exactly-any : (o : Stages.Object) (work ids : List ℕ) (p : Linked) → (previewed o work ids lent_any p).said ≡ first_refusal (preview_rules o work ids lent_any p)
  preview-exactly-any = ExactLinksLaws.preview-any key gabi bytes names symbols sections inputs lists new ts symbols' sections' inputs' lists'

-- ---- `Symbols::new`

pub new-exactly : (key : ℕ) (gabi : Bool) (bytes names symbols sections : List ℕ) → refusal_by (new_of key gabi bytes names symbols sections).said ≡ first_refusal (new_rules names symbols)
new-exactly = NewExactly.new-exactly

-- a table just where none holds
pub new-accepted : (key : ℕ) (gabi : Bool) (bytes names symbols sections : List ℕ)
    → eqb (number_in (new_of key gabi bytes names symbols sections).said) 0 ≡ not (some_holds (new_rules names symbols))
new-accepted = NewExactly.new-accepted

-- ---- over any link: a preview's room, the file of a merge (2026-01), a list of adds (2026-05), the plain collection (2026-12)

-- fewer preview cells of some sort than the link was lent give 2 at 0, behind 22 and 1, and leave the preview cells
pub preview-two : (o : Stages.Object) (work ids : List ℕ) (s p : Linked) → (Previews.head o work ids s p).number ≡ 0 → lacks_cells s p ≡ true
    → previewed o work ids s p ≡ leave (all_in p work ids) p.table.link (Err (refused 2 0))
preview-two o work ids s p z e = Previews.preview-two o work ids s p z (PreviewExactly.short o work ids s p e)

-- "26, [..] right after 22; 27, after 26, [..]; then 2, place 0"; the rules of the merge of its rows follow (`exactly`)
pub head-exactly : (broken : Bool) (file : List ℕ) (cells : ℕ) → file_head_of broken file cells ≡ first_refusal (file_rules broken file cells)
head-exactly = FileExactly.head-exactly

-- "A broken link gives 22 to any list, then fewer cells than adds give 2", then each add's own rules, over what the adds before it left
pub list-exactly : (conversion adds ids : List ℕ) (s : Linked)
    → call_refusal (add_list conversion adds ids) s ≡ first_refusal (list_head s.table adds ids ++ list_rules conversion (items_of adds) s.table)
list-exactly = ListExactly.list-exactly

-- "30, more such sections than that, after 1, place 0"
pub plain-exactly : (marks : List ℕ) (entry : Option SymbolId) (work : List ℕ) (s : Linked)
    → call_refusal (plain_collect marks entry work) s ≡ first_refusal (plain_rules s.table s.lists marks entry work)
plain-exactly = PlainExactly.plain-exactly
