-- The terms of acceptance on one page: statements only, each proved by citing a theorem. Terms.antt has more of them, by place and number, and ExactTerms.antt of the
-- rules.
--
-- The words stand in specs/, in the files named here. Besides the calls themselves (Calls.antt: `Call`, `call_left` what a call leaves and answers, `call_refusal` its
-- number and place, `call_next` the link after it, `run_calls` the link after a list of them):
--   s0            the link that an accepted Symbols::new left
--   end           run_calls ks s0, after calls ks that remove nothing (RemovesNothing)
--   lookup b s    what get_global answers for the bytes b: a row, or a refusal (Words.antt, as the next three)
--   undefined b s lookup b s is a row whose value is `Undefined`
--   adds b ks s0  the accepted adds of the name b that aren't local, oldest first: the id answered to each, and the row it would be
--   gabi          the profile: false the old one, true gABI's; hidden_by gabi l r is r, in gABI's hidden if one of l is
--   strong b s    lookup b s is a row that is global and not weak
--   ties b s      undefined b s, in the gABI profile undefined b s && strong b s
--   tied a s      the members of the entries of the archives a whose name ties in s, each by archive and offset as one number (key_in), in the order of the indexes
--   offered a w   the members that the walk w offered, by such numbers, in order; first_seen and without (archive_laws/specs/PassList.antt) on such lists
--   Offered a m q one of the entries q is of the member m, which is an archive and an offset (archive_laws/specs/Rounds.antt)
--   m             the number of members that the archives have
--   Before, After a section is built before a collection, after it; Reached (gc_laws/specs/Reached.antt) what relocations reach from the roots
--   NeededIn      what makes a library needed, by lookups and by the libraries that were loaded (NeededIn.antt)
--   Exit, Meets   what a caller sees of a call, and the call's contract (CallContracts.antt)
--   earlier k s   s; of a list of adds, the link after those of its adds that were accepted (Calls.antt)
--   Premises      types 0 to 3, no commons, and what else a list of adds has to be (order_laws/specs/Premises.antt)
--   AnyOrder      every arrangement of the list is accepted, with the same content of each name with a strong definition (order_laws/specs/Order.antt)
--   told a q s k  entry k of all of the archives a, by its name's lookup in s and by whether the members offered by the entries q have its own (Shadowed.antt)
--   FiguresAre    what each figure of a title counts: lookups, members and passes of its walk, section rows; title_of s w is the title of link s and walk w (Figures.antt)
--   would h e c f s i  symbol i of an object of the headers h, entries e, contents c and bytes f, by its entry and its name's lookup in s; defines is its half that
--                 doesn't ask s, held_id the id of the row (Untaken.antt)
-- WorkedLinks.antt has a history that meets the premises, and other worked links.
-- Assumes nothing.
use Rattle.shared_objects.specs.declared.Load.TheVariants.{NotNeeded}
use Rattle.gc_sections.specs.Run.{dropped}
use Rattle.std.specs.Prelude.{ℕ, ◌+◌, ◌<◌, ◌≤◌, ◌≡◌, Bool, true, false, cond, not, ◌&&◌, List, [], ◌∷◌, ◌++◌, ◌≢◌, ◌↔◌, eqb, get_or, length, Option, None, Some, Ok, Err}
use Rattle.std.proofs.Common.{sym, ap, ◌∙◌, subst}
use Rattle.gabi.specs.SymbolTable.{stv_default, stv_hidden}
use Rattle.gabi.specs.Visibility.{combined}
use Rattle.gabi.specs.Resolution as Resolution
use Rattle.link.specs.declared.SymbolId.{SymbolId}
use Rattle.link.specs.declared.SectionId.{SectionId}
use Rattle.link.specs.Bounds.{not_lent}
use Rattle.link.specs.Said.{number_in}
use Rattle.symbol.specs.Row.{symbol_at}
use Rattle.symbol.specs.RowLaws.{symbol_of}
use Rattle.symbols.specs.New.{new_of}
use Rattle.symbols.specs.Lookup.{not_found}
use Rattle.shared_objects.specs.Load as Shared
use Rattle.archive_index.specs.Archives.{Archives, index_at, count_at, entries_in, name_in, key_in, member}
use Rattle.archive_index.specs.Index.{offset_of, name_of}
use Rattle.archive_laws.specs.Rounds.{Offered}
use Rattle.archive_laws.specs.Rounds as Rounds
use Rattle.archive_walk.specs.Look.{Table}
use Rattle.archive_laws.specs.Runs.{Run, history, start_run}
use Rattle.archive_laws.specs.PassList.{is_in, without, first_seen, offered, Over}
use Rattle.archive_laws.proofs.PassList.{among_in}
use Rattle.gc_laws.specs.Collected as Collected
use Rattle.gc_laws.specs.Reached as Roots
use Rattle.merge_stages.specs.Stages as Stages
use Rattle.symbol_laws.specs.Rank.{first_by_rank, joined_in}
use Rattle.symbol_laws.specs.Hidden.{is_hidden, some_hidden}
use Rattle.symbol_laws.specs.Standing.{SameButHidden, hidden_by}
use Rattle.symbol.specs.Row.{row_at}
use Rattle.symbol_laws.specs.ObjectWords.{sections_in, program, loaded_as}
use Rattle.symbol_laws.specs.Agreement as Agreement
use Rattle.symbol_laws.specs.History.{Entry, opened, rows}
use Rattle.link.specs.Judge.{refused}
use Rattle.merge_elf.specs.Merge.{leave}
use Rattle.merge_laws.specs.Calls.{Linked, linked, all_in, link_in}
use Rattle.preview_laws.specs.Shown.{previewed, Enough, ShowsLink, SameBehind}
use Rattle.preview_laws.proofs.Terms as Previews
use Rattle.link_laws.specs.PreviewRules.{lacks_cells, preview_rules}
use Rattle.merge_laws.specs.Origin.{from_objects}
use Rattle.merge_laws.specs.MergeWords.{named_by, is_removed}
use Rattle.merge_laws.specs.MergeWords as ObjectWords
use Rattle.link.specs.declared.Interned.{Interned}
use Rattle.symbol.specs.declared.Row.{Row}
use Rattle.symbol.specs.Hidden.{pass_hidden}
use Rattle.symbol_resolution.specs.Apply as Apply
use Rattle.symbol_laws.specs.History.{upcoming}
use Rattle.symbol_laws.specs.ObjectWords as Entries
use Rattle.upcoming_symbol.specs.declared.UpcomingSymbol.{UpcomingSymbol}
use Rattle.order_laws.specs.Premises.{Premises}
use Rattle.order_laws.specs.Order.{names_issued, AnyOrder}
use Rattle.order_laws.proofs.Terms as Order
use Rattle.link_laws.specs.Calls.{Call, remove, get, get_global, section_symbol, merge, load, archive_start, archive_next, archive_shadowed, would_define, add, collect, library_in, lists_in, call_left, refusal_by, call_refusal, call_number, call_next, run_calls, RemovesNothing, earlier}
use Rattle.link_laws.specs.Leaves.{by_elements}
use Rattle.link_laws.specs.Elements as Elements
use Rattle.link_laws.specs.CallContracts.{Exit, Meets}
use Rattle.link_laws.specs.Kept.{signatures}
use Rattle.link_laws.proofs.Profile.{calls-profile}
use Rattle.link_laws.specs.Walks.{next_in, with_walk, walk_after, tables_at, joined}
use Rattle.link_laws.proofs.Walks.{walk_is}
use Rattle.link_laws.specs.WalkIn as WalkIn
use Rattle.link_laws.proofs.WalkIn as WalkInLaws
use Rattle.link_laws.specs.SectionSymbols.{SectionRow, LocalSection, LastOf}
use Rattle.link_laws.specs.Growth.{Turn, Quiet, run_turns}
use Rattle.link_laws.specs.NeededIn.{NeededIn}
use Rattle.link_laws.specs.Words.{id_of, lookup, undefined, strong, ties, adds, tied}
use Rattle.link_laws.proofs.Words.{ties-seen, tied-seen}
use Rattle.link_laws.specs.Shadowed.{knows, strongly_defined, told, those_below, Tells}
use Rattle.link_laws.specs.Figures.{title_of, FiguresAre, NoneLost}
use Rattle.link_laws.specs.Untaken.{defines, would, held_id, as_added, TellsPairs}
use Rattle.link_laws.specs.Rules as Rules
use Rattle.link_laws.specs.CallRules.{rules}
use Rattle.link_laws.proofs.ExactTerms as ExactTerms
use Rattle.link_laws.specs.ExactLinks.{lent_as}
use Rattle.link_laws.specs.NewRules.{new_rules}
use Rattle.link_laws.specs.BuiltSections.{SparesAll}
use Rattle.link_laws.specs.ObjectSections as ObjectSections
use Rattle.link_laws.specs.ObjectSections.{section_id}
use Rattle.link_laws.specs.GivenRows.{AllStand}
use Rattle.link_laws.specs.Contents.{FromCalls}
use Rattle.link_laws.specs.EntryNames.{AllBear}
use Rattle.link_laws.specs.OwnEntries.{entry_of, AllFrom, entries_of}
use Rattle.link_laws.proofs.Terms as Terms

-- ---- 1. answers and refusals

-- "exactly where document 01's rules in their order give it": after a new table and any calls, those that remove too, number and place are those of the
-- first rule of the call that holds (CallRules.antt), and it is a result just where none does
module _ (key : ℕ) (gabi : Bool) (bytes names symbols sections inputs lists : List ℕ) (new : number_in (new_of key gabi bytes names symbols sections).said ≡ 0) (ks : List Call) (k : Call) where
  abbrev pub on : Linked
  on = ExactTerms.on key gabi bytes names symbols sections inputs lists new ks

  pub exactly : call_refusal k on ≡ Rules.first_refusal (rules k on)
  exactly = ExactTerms.exactly key gabi bytes names symbols sections inputs lists new ks k

  pub accepted : eqb (call_number k on) 0 ≡ not (Rules.some_holds (rules k on))
  accepted = ExactTerms.accepted key gabi bytes names symbols sections inputs lists new ks k

-- the same where lists grew before calls (Turn, Growth.antt), and any cells are lent at the end for symbols, sections, inputs and lists (lent_as, ExactLinks.antt)
pub exactly-any : (key : ℕ) (gabi : Bool) (bytes names symbols sections inputs lists : List ℕ) → number_in (new_of key gabi bytes names symbols sections).said ≡ 0 → (ts : List Turn)
    (symbols' sections' inputs' lists' : List ℕ) (k : Call)
    → let on = lent_as (run_turns ts (linked (opened (new_of key gabi bytes names symbols sections)) inputs lists)) symbols' sections' inputs' lists' in
    call_refusal k on ≡ Rules.first_refusal (rules k on)
exactly-any = ExactTerms.exactly-any

-- and of `Symbols::new` itself, for any lists
pub new-exactly : (key : ℕ) (gabi : Bool) (bytes names symbols sections : List ℕ) → refusal_by (new_of key gabi bytes names symbols sections).said ≡ Rules.first_refusal (new_rules names symbols)
new-exactly = ExactTerms.new-exactly

-- "and leaves behind what that table says": a refused call leaves everything of the link (a list of adds, with the adds before the refused one); a merge or a
-- load what its elements before left, and a broken link
pub left : (k : Call) (s : Linked) → by_elements k ≡ false → call_number k s ≢ 0 → call_next k s ≡ earlier k s
left = Terms.refused-leaves

pub left-merge : (o : _) (work ids : List ℕ) (s : Linked) → call_number (merge o work ids) s ≢ 0 → Elements.MergeLeft o work ids s
left-merge = Terms.merge-leaves

pub left-load : (o : _) (marks : List ℕ) (s : Linked) → call_number (load o marks) s ≢ 0 → Elements.LoadLeft o marks s
left-load = Terms.load-leaves

-- "A public call's result and every lent cell after it, refusal or not, follow from its inputs alone"
pub one-outcome : (k : Call) (s : Linked) (x y : Exit k) → Meets k s x → Meets k s y → x ≡ y
one-outcome = Terms.one-outcome

-- ---- "Let a link be a new table and any sequence of calls that removes nothing"

module _ (key : ℕ) (gabi : Bool) (bytes names symbols sections inputs lists : List ℕ) (new : number_in (new_of key gabi bytes names symbols sections).said ≡ 0) (lent : length lists ≤ not_lent) where
  abbrev pub s0 : Linked
  s0 = Terms.start key gabi bytes names symbols sections inputs lists new

  -- a profile, "chosen when the table is made and fixed for its life": no call changes it, those that remove neither
  pub profile : (ks : List Call) → (run_calls ks s0).table.link.gabi ≡ gabi
  profile = Terms.profile key gabi bytes names symbols sections inputs lists new

  module _ (ks : List Call) (quiet : RemovesNothing ks s0) where
    abbrev pub end : Linked
    end = run_calls ks s0

    -- ---- 2. against the gABI

    -- the content of a name (demand-3a), but a joined common's size and alignment, is that of an entry of an object or a library, or of a direct add, in
    -- document 01's words (FromCalls, Contents.antt)
    pub contents : (b : List ℕ) (x : Entry) (xs : List Entry) → adds b ks s0 ≡ x ∷ xs → FromCalls (first_by_rank gabi x.row (rows xs)) ks s0 []
    contents b = Terms.contents key gabi bytes names symbols sections inputs lists new ks quiet (id_of b end).0

    -- and has what the gABI resolves these entries to, known places of the old profile apart (Agrees)
    pub resolution : (b : List ℕ) (x : Entry) (xs : List Entry) → adds b ks s0 ≡ x ∷ xs → (from : AllFrom ks s0 [] (rows (x ∷ xs)))
        → Agreement.Agrees gabi x.row (rows xs) (entry_of x.row ks s0 [] from.0) (entries_of ks s0 [] (rows xs) from.1) (row_at end.table.symbols x.id)
        (Resolution.resolve (entries_of ks s0 [] (rows (x ∷ xs)) from))
    resolution b x xs e from = Terms.gabi-agrees-own key gabi bytes names symbols sections inputs lists new ks quiet (id_of b end).0 x xs e from

    -- in the gABI profile the row's visibility is what the gABI combines those of these entries to; a shared object's counts as default (shared_entry)
    pub visibility : (b : List ℕ) (x : Entry) (xs : List Entry) → adds b ks s0 ≡ x ∷ xs → (from : AllFrom ks s0 [] (rows (x ∷ xs))) → gabi ≡ true
        → combined (entries_of ks s0 [] (rows (x ∷ xs)) from) ≡ cond (is_hidden (row_at end.table.symbols x.id)) stv_hidden stv_default
    visibility b x xs e from = Terms.gabi-visible key gabi bytes names symbols sections inputs lists new ks quiet (id_of b end).0 x xs e from

    -- these are the entries of that name: its bytes are what the string table of an object or a library has for the symbol, whose name isn't missing (AllBear,
    -- EntryNames.antt)
    pub named : (b : List ℕ) (x : Entry) (xs : List Entry) → adds b ks s0 ≡ x ∷ xs → (from : AllFrom ks s0 [] (rows (x ∷ xs)))
        → AllBear b (id_of b end).0 ks s0 [] (x ∷ xs) from
    named = Terms.adds-bear key gabi bytes names symbols sections inputs lists new ks quiet

    -- ---- 3. "each global name has the id of its first accepted add and the content of its first accepted strong definition, else weak definition, else add"
    -- 2026-06: "a name's holder is the first strong definition that is no common, else the commons joined, else as before" (joined_in)

    -- in the gABI profile "A name without a definition thus holds its first accepted strong reference, if there is one" (first_by_rank), and hidden is apart
    pub demand-3a : (b : List ℕ) (x : Entry) (xs : List Entry) → adds b ks s0 ≡ x ∷ xs
        → lookup b end ≡ Ok (symbol_of (record { 0 = x.id }) (hidden_by gabi (rows (x ∷ xs)) (joined_in (rows (x ∷ xs)) (first_by_rank gabi x.row (rows xs)))))
    demand-3a b = Terms.lookup-row key gabi bytes names symbols sections inputs lists new ks quiet lent (id_of b end).0

    pub content-3a : (b : List ℕ) (x : Entry) (xs : List Entry) → adds b ks s0 ≡ x ∷ xs → SameButHidden (row_at end.table.symbols x.id) (joined_in (rows (x ∷ xs)) (first_by_rank gabi x.row (rows xs)))
    content-3a b = Terms.content-3a key gabi bytes names symbols sections inputs lists new ks quiet (id_of b end).0

    -- which "is taken from all accepted object adds", direct ones among them; a direct add of `ExternallyDefined` is never hidden (contents: FromAdd, Contents.antt)
    pub hidden-3a : (b : List ℕ) (x : Entry) (xs : List Entry) → adds b ks s0 ≡ x ∷ xs → gabi ≡ true
        → is_hidden (row_at end.table.symbols x.id) ≡ some_hidden (rows (from_objects (adds b ks s0)))
    hidden-3a b = Terms.hidden-objects-3a key gabi bytes names symbols sections inputs lists new ks quiet (id_of b end).0

    pub none-3a : (b : List ℕ) → adds b ks s0 ≡ [] → lookup b end ≡ not_found 23 0
    none-3a b = Terms.lookup-none key gabi bytes names symbols sections inputs lists new ks quiet lent (id_of b end).0

    -- an id that was given out has its row; one that wasn't gives 21; so does one that is removed, for ever
    pub given : (i : SymbolId) → i.0 < end.table.link.symbols → call_left (get i) end ≡ Ok (symbol_at end.table.symbols i)
    given = Terms.get_present key gabi bytes names symbols sections inputs lists new ks quiet lent

    pub absent : (i : SymbolId) → end.table.link.symbols ≤ i.0 → call_left (get i) end ≡ not_found 21 i.0
    absent = Terms.get_absent key gabi bytes names symbols sections inputs lists new ks lent

    pub removed : (i : SymbolId) → call_number (remove i) end ≡ 0 → (ls : List Call) → call_left (get i) (run_calls ls (call_next (remove i) end)) ≡ not_found 21 i.0
    removed = Terms.get-removed key gabi bytes names symbols sections inputs lists new ks lent

    -- nor is its name found again: "never forgets a global name"
    pub removed-name : (b : List ℕ) (x : Entry) (xs : List Entry) → adds b ks s0 ≡ x ∷ xs → call_number (remove (record { 0 = x.id })) end ≡ 0 → (ls : List Call)
        → call_left (get_global (id_of b end)) (run_calls ls (call_next (remove (record { 0 = x.id })) end)) ≡ not_found 21 (id_of b end).0
    removed-name b = Terms.lookup-removed key gabi bytes names symbols sections inputs lists new ks quiet lent (id_of b end).0

    -- a section's symbol is its last local `Section` row, and there is none where there is no such row (LocalSection, LastOf, SectionSymbols.antt: by `get`)
    pub section-symbol : (y : SectionId) (i : SymbolId) → (call_left (section_symbol y) end ≡ Some i) ↔ LastOf end y i
    section-symbol = Terms.section-last key gabi bytes names symbols sections inputs lists new ks quiet lent

    pub section-none : (y : SectionId) → (call_left (section_symbol y) end ≡ None) ↔ ((i : SymbolId) → LocalSection end y i → ⊥)
    section-none = Terms.section-none key gabi bytes names symbols sections inputs lists new ks quiet lent

    -- "`remove` of any `Section` row drops that entry"; after that, and after any other calls, those added since count (Terms.section-newest)
    pub section-removed : (y : SectionId) (i : SymbolId) → call_number (remove i) end ≡ 0 → SectionRow end y i → call_left (section_symbol y) (call_next (remove i) end) ≡ None
    section-removed = Terms.section-removed key gabi bytes names symbols sections inputs lists new ks lent

    -- ---- as-needed: "not needed" is answered exactly to a library that isn't

    pub needed : (o : Shared.Input) (marks : List ℕ) → (Shared.head_in o (library_in end marks)).number ≡ 0 → o.asneeded ≡ true
        → ((call_left (load o marks) end).answer ≡ Ok NotNeeded) ↔ (NeededIn s0 ks o → ⊥)
    needed o marks h a =
        let same = Terms.needed-in key gabi bytes names symbols sections inputs lists new ks lent o in (
          λ e n. (Terms.not-needed-only key gabi bytes names symbols sections inputs lists new ks quiet o marks e).2 (same.1 n),
          λ n. Terms.not-needed-all key gabi bytes names symbols sections inputs lists new ks quiet o marks h a (λ r. n (same.0 r)),
        )

    -- ---- a walk over archives that have m members: the calls for the next member stand anywhere, one behind each part of kss

    module _ (walk_key : ℕ) (archives : Archives) (cells : List ℕ) (begun : call_number (archive_start walk_key archives cells) end ≡ 0) where
      abbrev pub m : ℕ
      m = Rounds.members archives (entries_in archives)

      abbrev pub walk_by : List (List Call) → Run
      walk_by kss = walk_after archives kss (start_run walk_key archives cells) end

      -- "makes at most m + 1 passes"
      pub at_most : (kss : List (List Call)) → (walk_by kss).walk.passes ≤ m + 1
      at_most kss = (Terms.demand-3b key gabi bytes names symbols sections inputs lists new ks quiet walk_key archives cells begun kss).bound

      -- "each pass offers exactly the members not yet offered that the index ties to a name undefined at its start": the call behind kss and ls makes a pass,
      -- over the link there; those behind lss make none; then it is over, since the walk is done or the next call makes another
      module _ (kss : List (List Call)) (ls : List Call) (lss : List (List Call)) (calm : RemovesNothing (joined kss ++ ls) end) where
        abbrev pub link : Linked
        link = WalkIn.link_then archives walk_key cells begun end kss ls lss

        abbrev pub first : Run
        first = next_in archives (walk_by kss) link

        abbrev pub after : Run
        after = walk_after archives lss first link

        link-profile : link.table.link.gabi ≡ gabi
        link-profile = calls-profile ls (run_calls (joined kss) end) ∙ calls-profile (joined kss) end ∙ profile ks

        pub exactly-3b : first.walk.passes ≡ (walk_by kss).walk.passes + 1 → after.walk.passes ≡ first.walk.passes → Over walk_key archives cells begun after
            → offered archives after ≡ offered archives (walk_by kss) ++ without (offered archives (walk_by kss)) (first_seen (tied archives link))
        exactly-3b p q o =
            Terms.exactly-3b key gabi bytes names symbols sections inputs lists new ks quiet walk_key archives cells begun kss ls lss p q o
            ∙ ap (λ (l : List ℕ). offered archives (walk_by kss) ++ without (offered archives (walk_by kss)) (first_seen l))
            (tied-seen link _ _ (WalkInLaws.reached_then archives walk_key cells begun end _ _ (Terms.reached key gabi bytes names symbols sections inputs lists new ks quiet lent) kss ls lss calm) archives)

        -- a name that ties is one "undefined at its start"; in the gABI profile the walk "reads "undefined and strong" for "undefined""
        pub ties-old : gabi ≡ false → (b : List ℕ) → ties b link ≡ undefined b link
        ties-old old b = ap (λ (g : Bool). cond g (undefined b link && strong b link) (undefined b link)) (link-profile ∙ old)

        pub ties-gabi : gabi ≡ true → (b : List ℕ) → ties b link ≡ undefined b link && strong b link
        ties-gabi p b = ap (λ (g : Bool). cond g (undefined b link && strong b link) (undefined b link)) (link-profile ∙ p)

        -- "and no name undefined at the last pass is tied to an unoffered member"
        pub last : (walk_by kss).walk.done ≡ false → first.walk.done ≡ true → (k : ℕ) → k < entries_in archives → ties (name_in archives k) link ≡ true
            → is_in (key_in archives k) (offered archives first) ≡ true
        last d e k h u =
            sym (among_in archives k first.offers)
            ∙ WalkInLaws.last-in archives walk_key cells begun end kss ls lss d e k h
            (ties-seen link _ _ (WalkInLaws.reached_then archives walk_key cells begun end _ _ (Terms.reached key gabi bytes names symbols sections inputs lists new ks quiet lent) kss ls lss calm) (name_in archives k)
            ∙ u)

        -- the same of every index, by its own entries (of bytes): the member of that archive at that offset was offered
        pub every-index : ((i : ℕ) → get_or archives.bytes i 0 < 256) → (walk_by kss).walk.done ≡ false → first.walk.done ≡ true → (j i : ℕ) → j < length archives.ends → i < count_at archives j
            → ties (name_of (index_at archives j) (count_at archives j) i) link ≡ true → Offered archives (member j (offset_of (index_at archives j) i)) first.offers
        every-index octets d e j i h g u =
            WalkInLaws.every-in archives walk_key cells begun end kss ls lss octets d e j i h g
            (ties-seen link _ _ (WalkInLaws.reached_then archives walk_key cells begun end _ _ (Terms.reached key gabi bytes names symbols sections inputs lists new ks quiet lent) kss ls lss calm)
            (name_of (index_at archives j) (count_at archives j) i)
            ∙ u)

        -- no call of a walk over such a link is refused
        pub goes : call_number (archive_next archives (walk_by kss).cells (walk_by kss).walk) link ≡ 0
        goes =
            subst (λ (r : Run). call_number (archive_next archives r.cells r.walk) link ≡ 0) (sym (walk_is archives kss (start_run walk_key archives cells) end))
            (WalkInLaws.next-goes archives walk_key cells begun link _ _
            (WalkInLaws.reached_then archives walk_key cells begun end _ _ (Terms.reached key gabi bytes names symbols sections inputs lists new ks quiet lent) kss ls lss calm)
            (tables_at kss end))

      -- and of m + 1 calls the last answers "done"
      pub ends : (kss : List (List Call)) → RemovesNothing (with_walk archives kss (start_run walk_key archives cells) end) end → m < length kss → (walk_by kss).walk.done ≡ true
      ends = Terms.walk_ends key gabi bytes names symbols sections inputs lists new ks quiet walk_key archives cells begun lent

    -- ---- "Collection, unless refused, keeps exactly what relocations reach from the roots"

    -- an object's relocations: after an accepted merge and calls whose collections reach it, a loaded program section n that no repeated group lists is built
    -- with its name, kind, retain and read, and names the ids that the symbols of its last loaded relocation table were given, in order
    pub relocations : (o : Stages.Object) (work ids : List ℕ) → call_number (merge o work ids) end ≡ 0 → (n : ℕ)
        → is_removed o.headers o.entries o.contents o.image (signatures ks s0) (sections_in o.headers) n ≡ false → (ls : List Call)
        → SparesAll ls (call_next (merge o work ids) end) (section_id o end n) → loaded_as o.headers n program ≡ true
        → ObjectSections.ObjectSection o work ids end (run_calls ls (call_next (merge o work ids) end)) n program
        (named_by o.headers o.contents n (sections_in o.headers))
    relocations o work ids ok n unremoved ls spared =
        Terms.program-built key gabi bytes names symbols sections inputs lists new ks lent o work ids ok n unremoved ls spared

    -- and these ids stand for the object's symbols to the end: id 0 for a null first one; a local's row has its entry's type, its value through the object's sections, its
    -- name, its file; any other id is the one that the symbol's name has (Stands, GivenRows.antt)
    pub relocation-symbols : (o : Stages.Object) (work ids : List ℕ) (ok : call_number (merge o work ids) end ≡ 0) (n : ℕ)
        → is_removed o.headers o.entries o.contents o.image (signatures ks s0) (sections_in o.headers) n ≡ false → (ls : List Call)
        → SparesAll ls (call_next (merge o work ids) end) (section_id o end n) → (kind : ℕ) (named : List ℕ)
        → let then = run_calls ls (call_next (merge o work ids) end) in
        (x : ObjectSections.ObjectSection o work ids end then n kind named) → AllStand o end (signatures ks s0) then named x.given
    relocation-symbols = Terms.symbols-stand key gabi bytes names symbols sections inputs lists new ks lent

    module _ (marks : List ℕ) (entry : Option SymbolId) (work : List ℕ) where
      abbrev pub Before : ℕ → Type 0
      Before = Collected.Before end.table.link (lists_in end marks) end.table.symbols end.table.sections entry work

      abbrev pub After : ℕ → Type 0
      After = Collected.After end.table.link (lists_in end marks) end.table.symbols end.table.sections entry work

      abbrev pub Reached : ℕ → Type 0
      Reached = Roots.Reached end.table.link (lists_in end marks) end.table.symbols end.table.sections entry

      pub demand-3c : (a c : ℕ) → (call_left (collect marks entry work) end).answer ≡ Ok (dropped a c) → (y : ℕ) → After y ↔ Reached y
      demand-3c a c e y =
          let k = Terms.demand-3c key gabi bytes names symbols sections inputs lists new ks quiet marks entry work a c e in (k.reached y, k.kept y)

  -- ---- beside the terms: what a walk over archives passed by, told by a call of our own. After any calls, those that remove too; the walk's own were lent whatever
  -- tables, those of the link as it stood among them (tables_at, Walks.antt)

  module _ (ks : List Call) (walk_key : ℕ) (archives : Archives) (cells : List ℕ) (begun : call_number (archive_start walk_key archives cells) (run_calls ks s0) ≡ 0)
      (ts : List Table) (out : List ℕ) where
    abbrev pub now : Linked
    now = run_calls ks s0

    abbrev pub walk : Run
    walk = history archives ts (start_run walk_key archives cells)

    -- an entry is told just where its name's lookup answers a weak definition and no call of the walk has offered its member, or an undefined row and one has
    pub told-exactly : call_number (archive_shadowed archives.bytes walk.cells walk.walk out) now ≡ 0
        → Tells (those_below (told archives walk.offers now) (entries_in archives)) out (call_left (archive_shadowed archives.bytes walk.cells walk.walk out) now)
    told-exactly = Terms.shadowed-exactly key gabi bytes names symbols sections inputs lists new ks lent walk_key archives cells begun ts out

    -- one more call, over this link, ends the walk, and nothing is told: in the old profile a name of an entry whose member was not offered is held strongly, or
    -- the link doesn't know it
    abbrev pub walk_end : Run
    walk_end = next_in archives walk now

    pub passed-by-held : gabi ≡ false → walk.walk.done ≡ false → walk_end.walk.done ≡ true → (call_left (archive_shadowed archives.bytes walk_end.cells walk_end.walk out) now).answer ≡ Ok 0
        → (k : ℕ) → k < entries_in archives → Rounds.among archives k walk_end.offers ≡ false → knows (name_in archives k) now ≡ true
        → strongly_defined (name_in archives k) now ≡ true
    passed-by-held = Terms.passed-by-held key gabi bytes names symbols sections inputs lists new ks lent walk_key archives cells begun ts out

  -- and what a member that was not taken would have defined, told by another: any object, over the link after any calls
  module _ (ks : List Call) (headers entries contents file : List ℕ) where
    abbrev pub so_far : Linked
    so_far = run_calls ks s0

    -- a symbol is told just where it has a name and is a definition, global or weak, and a lookup of the name answers an undefined row, a common where the symbol is a
    -- global definition that is none, or a weak definition where it is a global one or a common; with the row's id
    pub untaken-exactly : (out : List ℕ) → call_number (would_define headers entries contents file out) so_far ≡ 0
        → TellsPairs (held_id headers entries contents file so_far)
        (those_below (would headers entries contents file so_far) (Entries.entries_in (ObjectWords.symbols_of headers entries contents file))) out
        (call_left (would_define headers entries contents file out) so_far)
    untaken-exactly = Terms.untaken-exactly key gabi bytes names symbols sections inputs lists new ks lent headers entries contents file

    -- which is what the resolution would do: an accepted add of what is told leaves its row under the name, hidden too if in the gABI's profile the row was; one of
    -- another definition of a name that the link knows leaves the row, joined with it if both are common, hidden too if it is
    module _ (i : ℕ) (conversion : List ℕ) (source : Option Interned)
        (ok : call_number (add conversion (as_added headers entries contents file so_far i source)) so_far ≡ 0) where
      abbrev pub its_row : Row
      its_row = upcoming so_far.table conversion (as_added headers entries contents file so_far i source)

      abbrev pub row_then : Row
      row_then = row_at so_far.table.symbols (held_id headers entries contents file so_far i)

      abbrev pub row_now : Row
      row_now = row_at (call_next (add conversion (as_added headers entries contents file so_far i source)) so_far).table.symbols (held_id headers entries contents file so_far i)

      pub told-takes-over : would headers entries contents file so_far i ≡ true → row_now ≡ pass_hidden gabi row_then.scope its_row
      told-takes-over e =
          Terms.told-takes-over key gabi bytes names symbols sections inputs lists new ks lent headers entries contents file i conversion source ok e
          ∙ ap (λ (g : Bool). pass_hidden g row_then.scope its_row) (Terms.profile key gabi bytes names symbols sections inputs lists new ks)

      pub untold-stays : defines headers entries contents file so_far i ≡ true → knows (ObjectWords.symbol_name headers entries contents file i) so_far ≡ true
          → would headers entries contents file so_far i ≡ false → row_now ≡ pass_hidden gabi its_row.scope (Apply.joined row_then its_row)
      untold-stays d h e =
          Terms.untold-stays key gabi bytes names symbols sections inputs lists new ks lent headers entries contents file i conversion source ok d h e
          ∙ ap (λ (g : Bool). pass_hidden g its_row.scope (Apply.joined row_then its_row)) (Terms.profile key gabi bytes names symbols sections inputs lists new ks)

  -- ---- the figures of a title: of the link after any calls, those that remove too, and a walk that was begun, its calls lent whatever tables

  module _ (ks : List Call) where
    abbrev pub reported : Linked
    reported = run_calls ks s0

    pub figures-are : (walk_key : ℕ) (archives : Archives) (cells : List ℕ) → call_number (archive_start walk_key archives cells) reported ≡ 0 → (ts : List Table)
        → FiguresAre reported archives ts (start_run walk_key archives cells)
    figures-are = Terms.figures-are key gabi bytes names symbols sections inputs lists new ks lent

    -- an accepted collection moves sections and bytes from kept to dropped, and loses none
    pub none-lost : (marks : List ℕ) (entry : Option SymbolId) (work : List ℕ) (a c : ℕ) → (call_left (collect marks entry work) reported).answer ≡ Ok (dropped a c)
        → (walk : Run) → NoneLost (title_of reported walk) (title_of (call_next (collect marks entry work) reported) walk)
    none-lost = Terms.none-lost key gabi bytes names symbols sections inputs lists new ks lent

  -- ---- a preview of an object, after any calls: p are the preview cells, lent as another link's. It is no call: it has the link by its cells alone, which stay

  module _ (ks : List Call) (o : Stages.Object) (work ids : List ℕ) (p : Linked) where
    abbrev pub before : Linked
    before = run_calls ks s0

    -- number and place are those of the first of its rules that holds (PreviewRules.antt)
    pub preview-exactly : (previewed o work ids before p).said ≡ Rules.first_refusal (preview_rules o work ids before p)
    preview-exactly = ExactTerms.preview-exactly key gabi bytes names symbols sections inputs lists new ks o work ids p

    -- the answer is what the merge into the link would answer, and the first cells of each sort and the counts are the link's after that merge
    pub preview-answers : Enough before p → (previewed o work ids before p).answer ≡ (call_left (merge o work ids) before).answer
    preview-answers = Previews.preview-answers o work ids before p

    pub preview-shows : Enough before p → (Previews.head o work ids before p).number ≡ 0 → ShowsLink (call_next (merge o work ids) before) (link_in (previewed o work ids before p).cells)
    preview-shows = Previews.preview-shows o work ids before p

    -- a refusal of the head, and too few cells, leave the preview cells; what lies behind the copy stays in any case
    pub preview-leaves : (Previews.head o work ids before p).number ≢ 0 → previewed o work ids before p ≡ leave (all_in p work ids) p.table.link (Err (Previews.head o work ids before p))
    preview-leaves = Previews.preview-head o work ids before p

    pub preview-two : (Previews.head o work ids before p).number ≡ 0 → lacks_cells before p ≡ true → previewed o work ids before p ≡ leave (all_in p work ids) p.table.link (Err (refused 2 0))
    preview-two z e = ExactTerms.preview-two o work ids before p z e

    pub preview-behind : SameBehind before p (link_in (previewed o work ids before p).cells)
    preview-behind =
        Previews.preview-behind o work ids before p
        (Terms.past-the-count key gabi bytes names symbols sections inputs lists new ks (merge o work ids))

  -- ---- where lists grow between the calls, as the Rust crate lends them: the profile, demand 3a

  module _ (ts : List Turn) (calm : Quiet ts s0) where
    abbrev pub grown_end : Linked
    grown_end = Terms.grown_end key gabi bytes names symbols sections inputs lists new ts calm lent

    pub grown-profile : grown_end.table.link.gabi ≡ gabi
    grown-profile = Terms.grown-profile key gabi bytes names symbols sections inputs lists new ts calm lent

    pub grown-3a : (b : List ℕ) (x : Entry) (xs : List Entry)
        → Terms.grown_adds key gabi bytes names symbols sections inputs lists new ts calm lent (id_of b grown_end).0 ≡ x ∷ xs
        → lookup b grown_end ≡ Ok (symbol_of (record { 0 = x.id }) (hidden_by gabi (rows (x ∷ xs)) (joined_in (rows (x ∷ xs)) (first_by_rank gabi x.row (rows xs)))))
    grown-3a b = Terms.grown-row key gabi bytes names symbols sections inputs lists new ts calm lent (id_of b grown_end).0

    pub grown-hidden : (b : List ℕ) (x : Entry) (xs : List Entry)
        → Terms.grown_adds key gabi bytes names symbols sections inputs lists new ts calm lent (id_of b grown_end).0 ≡ x ∷ xs → gabi ≡ true
        → is_hidden (row_at grown_end.table.symbols x.id)
        ≡ some_hidden (rows (from_objects (Terms.grown_adds key gabi bytes names symbols sections inputs lists new ts calm lent (id_of b grown_end).0)))
    grown-hidden b = Terms.grown-hidden key gabi bytes names symbols sections inputs lists new ts calm lent (id_of b grown_end).0

-- ---- link order: "every arrangement of the list is accepted from a new table with the same names issued, and each name with a strong definition ends with the
-- same content in all of them", in the profile of the table. us are the adds of a list (items_of), ids the cells for their ids

pub any-order : (key : ℕ) (gabi : Bool) (bytes names symbols sections : List ℕ) → number_in (new_of key gabi bytes names symbols sections).said ≡ 0
    → (issued : List (List ℕ)) (conversion ids : List ℕ) (us : List UpcomingSymbol)
    → let start = names_issued issued (opened (new_of key gabi bytes names symbols sections)) in
    Premises start conversion us → length us ≤ length ids → AnyOrder start conversion ids gabi us
any-order key gabi bytes names symbols sections new issued conversion ids us = Order.any-order key gabi bytes names symbols sections new issued conversion us ids
