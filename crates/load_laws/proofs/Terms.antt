-- The statements about loads. The longer proofs stand in the other files.
-- Assumes nothing.
use Rattle.shared_objects.specs.declared.Load.TheVariants.{NotNeeded, Loaded}
use Rattle.std.specs.Prelude.{ℕ, ◌≤◌, ◌≡◌, refl, true, not, List, [], ◌++◌, ◌≢◌, eqb, get_or, length, Ok, Err}
use Rattle.std.proofs.Common.{◌∙◌, subst}
use Rattle.cells.specs.Proof.Split.{by-test}
use Rattle.gabi.specs.StringTable.{before_zero, ended, has_name, name_at}
use Rattle.link.specs.declared.Link.{Link}
use Rattle.link.specs.declared.cause.Refusal.{Refusal}
use Rattle.link.specs.Bounds.{not_lent}
use Rattle.link.specs.Judge.{refused, broken_of}
use Rattle.interner.specs.Names.{store_of}
use Rattle.interner_laws.specs.Good.{Good}
use Rattle.elf_object.specs.Rows.{rows_in}
use Rattle.shared_objects.specs.Head.{dependencies_ok, soname_missing}
use Rattle.shared_objects.specs.Need.{need_of, library_name}
use Rattle.shared_objects.specs.Load.{All, Input, left, marked, leave_links, links_in, head_in, name_of, load_of}
use Rattle.symbol_laws.specs.History.{State, Entry, rows}
use Rattle.symbol_laws.specs.Held.{Inv}
use Rattle.symbol_laws.proofs.BelowLemmas.{inv-below}
use Rattle.symbol_laws.specs.Within.{Within}
use Rattle.merge_laws.specs.Steps.{log_steps, Makes}
use Rattle.merge_laws.specs.Kept.{added_rows}
use Rattle.merge_laws.proofs.Kept.{log-rows, steps-keep}
use Rattle.merge_laws.specs.Seen.{parts_in, MadeAlone}
use Rattle.merge_laws.proofs.Seen.{makes-parts}
use Rattle.merge_laws.specs.Past.{TablePast}
use Rattle.merge_laws.proofs.Past.{makes-past}
use Rattle.merge_laws.specs.Lists.{Listed}
use Rattle.merge_laws.specs.Marked.{Marked, marks_of}
use Rattle.merge_laws.proofs.Markless.{marks-none}
use Rattle.load_laws.specs.LoadSteps.{load_steps}
use Rattle.load_laws.specs.Whole.{table_in}
use Rattle.load_laws.proofs.Whole.{load-makes}
use Rattle.load_laws.proofs.Unmarked as Unmarked
use Rattle.load_laws.specs.Accepted as Accepted
use Rattle.load_laws.proofs.Accepted as AcceptedLaws
use Rattle.load_laws.proofs.Lists as Lists
use Rattle.load_laws.proofs.Counts as Counts
use Rattle.load_laws.proofs.Sections as Sections
use Rattle.load_laws.specs.Stops as Stops
use Rattle.load_laws.proofs.Stops as StopsLaws
use Rattle.load_laws.specs.Stops.{want, ending}
use Rattle.load_laws.specs.Unbroken as Unbroken
use Rattle.load_laws.proofs.Unbroken as UnbrokenLaws
use Rattle.load_laws.specs.Needed.{Needed}
use Rattle.load_laws.proofs.Exact as Exact
use Rattle.load_laws.proofs.Unneeded as Unneeded
use Rattle.load_laws.specs.LawsRecorded.{most}
use Rattle.load_laws.specs.LibraryRow.{LibraryRow, LibraryNames}
use Rattle.load_laws.proofs.LibraryRow as LibraryLaws

module _ (o : Input) (a : All) where
  abbrev pub after : All
  after = (load_of o a).cells

  -- for every library and whatever the lent cells hold, also where it is refused half way or isn't needed: a load leaves names, symbols, section
  -- rows, sections' symbols and counts as its steps leave them that are made one by one, and each step is accepted where it is made
  pub load-is-its-steps : Makes (table_in a) (load_steps o a) (table_in after)
  load-is-its-steps = load-makes o a

  -- so the log of its steps has every row that it adds and that isn't local
  pub load-log : rows (log_steps (load_steps o a) (table_in a)) ≡ added_rows (load_steps o a)
  load-log = log-rows (load_steps o a) (table_in a) (load-makes o a).accepted

  -- and of a library that is loaded these are, in order, the rows of all symbols that it defines and that aren't local, each as it is planned on what
  -- the symbols before it left (`symbol_rows`, specs/Accepted.antt): no add is left out
  pub load-log-whole : (load_of o a).answer ≡ Ok Loaded
      → rows (log_steps (load_steps o a) (table_in a)) ≡ Accepted.symbol_rows o.entries o.image o.needs (links_in a) (name_of o) (rows_in o.entries)
  load-log-whole ok = load-log ∙ AcceptedLaws.load-rows o a ok

  -- with no more names than rows, as after every history from a new table: names issued and rows added one by one, as direct calls do it, leave the
  -- same names, symbols, sections' symbols and counts of names and symbols; each is accepted where it is made, and the log is the same
  pub load-is-its-parts : a.link.names ≤ a.link.chains → MadeAlone (table_in a) (load_steps o a) (table_in after) (parts_in (load_steps o a))
  load-is-its-parts r = makes-parts (table_in a) (table_in after) (load_steps o a) r (load-makes o a)

  -- after a history in which nothing was removed
  module _ (past : List Entry) (held : Inv (table_in a) past) where
    pub load-keeps : Inv (table_in after) (past ++ log_steps (load_steps o a) (table_in a))
    load-keeps =
        subst (λ (t : State). Inv t (past ++ log_steps (load_steps o a) (table_in a))) (load-makes o a).leads (steps-keep (load_steps o a) (table_in a) past held)

    -- "Rows past the count are never written"
    pub load_past : TablePast (table_in a) (table_in after)
    load_past = makes-past (table_in a) (table_in after) (load_steps o a) (inv-below (table_in a) past held) (load-makes o a)

  -- neither a section's row nor a section's symbol is written
  pub load-sections : after.sections ≡ a.sections
  load-sections = Sections.load-sections o a

  -- no signature is marked: those met stay
  pub load-marks-none : marks_of (load_steps o a) (table_in a) ≡ []
  load-marks-none = marks-none (load_steps o a) (table_in a) (Unmarked.load-markless o a)

  pub load-marked : (met : List (List ℕ)) → Marked (table_in a) met → Marked (table_in after) met
  load-marked = Unmarked.load-marked o a

  -- a lent list has fewer than 2^64 cells
  module _ (lent : length a.lists ≤ not_lent) where
    -- inputs and lists that are counted before, and those past the counts that it leaves, are never written
    pub load-lists : Listed a.inputs a.lists a.link after.inputs after.lists after.link
    load-lists = Lists.load-listed o a lent

    -- every count stays within its bound
    pub load-within : Within a.link a.names → a.link.lists ≤ length a.lists → Within after.link after.names
    load-within w h = Counts.load-within o a w h lent

  -- ---- the refusal table, "Left as it was"

  -- 22, 1, 25 and too few marks (2) leave all, and the link isn't broken by them
  pub head-leaves : (head_in o a).number ≢ 0 → load_of o a ≡ left a (Err (head_in o a))
  head-leaves = Unneeded.head-leaves o a

  -- every other refusal breaks the link
  pub refusal-breaks : (r : Refusal) → (head_in o a).number ≡ 0 → (load_of o a).answer ≡ Err r → after.link.broken ≡ true
  refusal-breaks = Unneeded.refusal-breaks o a

  -- and it is that of an element; "that call's earlier elements stay merged"
  pub refused-breaks : (head_in o a).number ≡ 0 → (want o a).needed ≡ true → (ending o a).stage.number ≢ 0
      → load_of o a
      ≡ leave_links (want o a).marks (ending o a)
      (record { link = broken_of (ending o a).stage.link; answer = Err (refused (ending o a).stage.number (ending o a).stage.place) })
  refused-breaks = StopsLaws.refused-breaks o a

  -- it leaves every cell as the elements before the refused one left it; on 10 to 12 that one's name is issued besides
  pub refused-leaves : (ending o a).stage.number ≢ 0 → Stops.Leaves o.entries o.image o.needs (links_in a) (name_of o)
  refused-leaves = StopsLaws.refused-leaves o.entries o.image o.needs (links_in a) (name_of o) refl

  -- a load that isn't refused doesn't break the link
  pub loaded-whole : (head_in o a).number ≡ 0 → (want o a).needed ≡ true → (ending o a).stage.number ≡ 0 → Unbroken.Loads o a
  loaded-whole = UnbrokenLaws.loaded-whole o a

  -- ---- "Under as-needed, an unneeded library answers "not needed" and changes nothing"

  -- the library defines, global or weak, a lacked name
  abbrev IsNeeded : Type 0
  IsNeeded = Needed a.link a.bytes a.names a.symbols a.inputs a.lists o.entries o.image (name_of o)

  -- "not needed" is answered to unneeded libraries alone, and to all of them
  pub not-needed-only : (load_of o a).answer ≡ Ok NotNeeded → ((head_in o a).number ≡ 0) × (o.asneeded ≡ true) × (IsNeeded → ⊥)
  not-needed-only = Unneeded.not-needed-only o a

  pub not-needed-all : (head_in o a).number ≡ 0 → o.asneeded ≡ true → (IsNeeded → ⊥) → (load_of o a).answer ≡ Ok NotNeeded
  not-needed-all = Unneeded.not-needed-all o a

  -- it leaves the link, and every cell but the marks
  pub not-needed-leaves : (load_of o a).answer ≡ Ok NotNeeded → after ≡ marked a after.marks
  not-needed-leaves = Unneeded.not-needed-leaves o a

  -- ---- the row of a loaded library; a lent list has fewer than 2^64 cells

  module _ (fit : length a.lists ≤ most) (loads : (load_of o a).answer ≡ Ok Loaded) where
    pub library-row : LibraryRow o a
    library-row = LibraryLaws.library-row o a fit loads

    -- where names are good
    pub library-names : Good (store_of a.bytes a.names a.link) → LibraryNames o a
    library-names = LibraryLaws.library-names o a fit loads

-- ---- the judgement of need, with a mark for each name: "needed" is answered where the library named x is needed, and nowhere else

module _ (l : Link) (bytes names symbols inputs lists marks entries file x : List ℕ) (room : l.names ≤ length marks) where
  pub needed-sound : (need_of l bytes names symbols inputs lists marks entries file x).needed ≡ true → Needed l bytes names symbols inputs lists entries file x
  needed-sound = Exact.needed-sound l bytes names symbols inputs lists marks entries file x room

  pub needed-complete : Needed l bytes names symbols inputs lists entries file x → (need_of l bytes names symbols inputs lists marks entries file x).needed ≡ true
  needed-complete = Exact.needed-complete l bytes names symbols inputs lists marks entries file x room

-- ---- 2026-04: a library whose string table has length 0. Its soname and its dependencies are offsets into that table, so they follow: offset 0 is the
-- empty name, any other is missing

-- dependency j
pub dependencies : (needs : List ℕ) (j : ℕ) → dependencies_ok [] needs j ≡ eqb (get_or needs j 0) 0
unfolding dependencies_ok has_name
dependencies needs j = refl

pub soname : (offset : ℕ) → soname_missing [] true offset ≡ not (eqb offset 0)
unfolding soname_missing has_name
soname offset = by-test (eqb offset 0) (λ a. rw a) (λ a. rw a)

pub soname-empty : (path : List ℕ) → library_name [] path true 0 ≡ []
unfolding library_name name_at ended before_zero
soname-empty path = refl
