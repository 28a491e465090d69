-- Collection: 22, 1, 2; what is reached; 21 at the lowest section that is reached but not built; else the sweep.
-- Assumes nothing.
use Rattle.gc_sections.specs.declared.Dropped.{Dropped}
use Rattle.link.specs.declared.SectionId.{SectionId}
use Rattle.link.specs.declared.SymbolId.{SymbolId}
use Rattle.std.specs.Prelude.{ℕ, ◌/◌, cond, List, eqb, ltb, length, Option, Result, None, Some, Ok, Err}
use Rattle.link.specs.declared.Link.{Link}
use Rattle.link.specs.declared.Lent.{Lent}
use Rattle.link.specs.declared.cause.Refusal.{Refusal}
use Rattle.link.specs.Bounds.{not_lent, name_rows, section_slots}
use Rattle.link.specs.Counts.{lent_rows}
use Rattle.link.specs.Judge.{refused, none, change_of}
use Rattle.symbols.specs.Remove.{rows_of}
use Rattle.cells.specs.Slice.{Slice, SliceMut}
use Rattle.gc_sections.specs.declared.Outcome.{Outcome}
use Rattle.gc_sections.specs.Reach.{Walk, walked}
use Rattle.gc_sections.specs.Sweep.{Swept, Purged, sweep_sections, purge_symbols}

abbrev pub dropped : ℕ → ℕ → Dropped
dropped sections symbols = record { sections = sections; symbols = symbols }

-- document 01's number and place of each case
abbrev pub number_of : Result Dropped Refusal → ℕ
number_of (Ok d) = 0
number_of (Err r) = r.number

abbrev pub place_of : Result Dropped Refusal → ℕ
place_of (Ok d) = 0
place_of (Err r) = r.place

-- its values: how many sections were dropped, and how many symbols were removed with them
abbrev pub sections_in : Result Dropped Refusal → ℕ
sections_in (Ok d) = d.sections
sections_in (Err r) = 0

abbrev pub symbols_in : Result Dropped Refusal → ℕ
symbols_in (Ok d) = d.symbols
symbols_in (Err r) = 0

pub record Said : Type 0 where
  pub number : ℕ
  pub place : ℕ
  pub sections : ℕ
  pub symbols : ℕ

abbrev pub said_of : Result Dropped Refusal → Said
said_of a = record { number = number_of a; place = place_of a; sections = sections_in a; symbols = symbols_in a }

-- every lent cell that a collection may write, the counts, the answer and what it says
pub record Left : Type 0 where
  pub symbols : List ℕ
  pub sections : List ℕ
  pub work : List ℕ
  pub link : Link
  pub answer : Result Dropped Refusal
  pub said : Said

abbrev pub left : List ℕ → List ℕ → List ℕ → Link → Result Dropped Refusal → Left
left symbols sections work l a =
    record { symbols = symbols; sections = sections; work = work; link = l; answer = a; said = said_of a }

abbrev pub outcome : List ℕ → List ℕ → List ℕ → Outcome → Left
outcome symbols sections work r = left symbols sections work r.link r.answer

-- of lent slices after the call
abbrev pub outcome_after : SliceMut → SliceMut → SliceMut → Outcome → Left
outcome_after symbols sections work r = outcome symbols.exit.now sections.exit.now work.exit.now r

-- what is only read: the names and their bytes, the lists, the marks
pub record Lists : Type 0 where
  pub bytes : List ℕ
  pub names : List ℕ
  pub lists : List ℕ
  pub marks : List ℕ

abbrev pub lists_of : List ℕ → List ℕ → List ℕ → List ℕ → Lists
lists_of bytes names lists marks = record { bytes = bytes; names = names; lists = lists; marks = marks }

-- as it is lent
abbrev pub lists_in : Slice → Slice → Slice → Slice → Lists
lists_in bytes names lists marks = lists_of bytes.entry.now names.entry.now lists.entry.now marks.entry.now

-- ---- the head

abbrev pub lent_of : ℕ → ℕ → ℕ → ℕ → ℕ → Lent
lent_of bytes names symbols sections lists = lent_rows (name_rows names) bytes symbols (section_slots sections) not_lent lists

-- the work cells of a section: its mark, and one of the queue's
abbrev pub work_width : ℕ
work_width = 2

-- "mark list cut short" (1), at the first symbol without one; then the work cells (2)
unfoldable pub judge_cells : Link → ℕ → ℕ → Refusal
judge_cells l marks work =
    cond (ltb marks l.symbols) (refused 1 marks) (cond (ltb (work / work_width) l.sections) (refused 2 0) none)

unfoldable pub judge_of : Link → Lent → ℕ → ℕ → Refusal
judge_of l lent marks work =
    cond (eqb (change_of l lent).number 0) (judge_cells l marks work) (change_of l lent)

-- ---- the end

abbrev pub purged : Link → Swept → Purged → Left
purged l s p = left p.rows.symbols p.rows.sections s.work l (Ok (dropped s.count p.count))

unfoldable pub purge_of : Link → List ℕ → Swept → Left
purge_of l symbols s = purged l s (purge_symbols l s.work (rows_of symbols s.sections))

unfoldable pub sweep_of : Link → List ℕ → List ℕ → List ℕ → Left
sweep_of l symbols sections work = purge_of l symbols (sweep_sections l.sections sections work)

-- "Of sections reached but not built, the lowest gives 21"
abbrev pub finish_of : Link → List ℕ → List ℕ → List ℕ → Option SectionId → Left
finish_of l symbols sections work None = sweep_of l symbols sections work
finish_of l symbols sections work (Some id) = left symbols sections work l (Err (refused 21 id.0))

unfoldable pub finished : Link → List ℕ → List ℕ → Walk → Left
finished l symbols sections s = finish_of l symbols sections s.work s.visitor.unbuilt

-- ---- the call

unfoldable pub collect_of : Link → Lists → List ℕ → List ℕ → Option SymbolId → List ℕ → Left
collect_of l x symbols sections entry work =
    finished l symbols sections (walked l x.bytes x.names symbols sections x.lists x.marks entry work)

abbrev pub judged : Link → Lists → List ℕ → List ℕ → List ℕ → Refusal
judged l x symbols sections work =
    judge_of l (lent_of (length x.bytes) (length x.names) (length symbols) (length sections) (length x.lists)) (length x.marks) (length work)

unfoldable pub run_of : Link → Lists → List ℕ → List ℕ → Option SymbolId → List ℕ → Left
run_of l x symbols sections entry work =
    cond (eqb (judged l x symbols sections work).number 0) (collect_of l x symbols sections entry work)
    (left symbols sections work l (Err (judged l x symbols sections work)))
