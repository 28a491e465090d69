-- What is promised of a report over a lot, statements only, each proved by citing the file where its proof stands: what the figures of a title count, what
-- a collection does to them, and that the totals are sums in any order.
-- Assumes nothing.
use Rattle.std.specs.Prelude.{ℕ, ◌+◌, ◌<◌, ◌≤◌, ◌≡◌, refl, true, not, List, eqb, get_or, length, count_by, IsPermutation, Option, Ok, Err, is_ok}
use Rattle.std.proofs.Common.{sym, ap, ◌∙◌}
use borrow.Author.Tests.{eq-eqb}
use Rattle.link.specs.declared.Link.{Link}
use Rattle.link.specs.declared.SymbolId.{SymbolId}
use Rattle.link.specs.declared.cause.Refusal.{Refusal}
use Rattle.symbol.specs.Row.{state_at}
use Rattle.symbol.specs.Layout.{removed_state}
use Rattle.sections.specs.Rows as Sections
use Rattle.sections.specs.Rows.{built_state, dropped_state}
use Rattle.archive_index.specs.Archives.{Archives}
use Rattle.archive_walk.specs.declared.Walk.{Walk}
use Rattle.archive_walk.specs.Look.{Table}
use Rattle.archive_walk.specs.Walk.{begun_number, start_of}
use Rattle.archive_laws.specs.Runs.{Run, history, start_run}
use Rattle.gc_sections.specs.Run.{Left, Lists, run_of, dropped}
use Rattle.gc_laws.specs.Reached.{Reached}
use Rattle.merge_laws.specs.BuiltRow.{BuiltAs}
use Rattle.lot_report.specs.declared.Report.{Report}
use Rattle.lot_report.specs.Count.{ids, count_below, sum_below}
use Rattle.lot_report.specs.Figures.{Title, is_listed, is_in_state, size_in, figures_of}
use Rattle.lot_report.specs.Report.{add_title_of}
use Rattle.report_laws.specs.Kept.{in_state, bytes_of}
use Rattle.report_laws.specs.Listed.{seven, answers_in, looked_up, Whole}
use Rattle.report_laws.specs.Lot.{start, figure, total, report_over, AllAdded, sum_over, Fits}
use Rattle.report_laws.specs.TitleRules.{answer_by, title_rules}
use Rattle.report_laws.specs.Walks.{passes_made}
use Rattle.report_laws.proofs.Collected as Collected
use Rattle.report_laws.proofs.Columns as Columns
use Rattle.report_laws.proofs.Counts as Counts
use Rattle.report_laws.proofs.Listed as Listed
use Rattle.report_laws.proofs.Passes as Passes
use Rattle.report_laws.proofs.TitleExactly as TitleExactly
use Rattle.report_laws.proofs.Totals as Totals

-- ---- the symbols of a title

module _ (t : Title) where
  -- a row is listed just where a lookup of its id answers a symbol of that column, and the figure is how many of the ids do
  module _ (whole : Whole t) where
    pub listed-is : (c id : ℕ) → id < t.link.symbols → is_listed t.symbols c id ≡ answers_in c (looked_up t id)
    listed-is c id h = Listed.listed-is t.link t.symbols whole id c h

    pub columns-are : (c : ℕ) → c < 7 → figure c t ≡ count_by (λ id. answers_in c (looked_up t id)) (ids t.link.symbols)
    columns-are c h = Listed.columns-are t whole c h

    -- the seven columns are the ids that a lookup answers
    pub rows-answer : seven (λ c. figure c t) ≡ count_by (λ id. is_ok (looked_up t id)) (ids t.link.symbols)
    rows-answer = Listed.rows-answer t whole

  -- of any cells: the rows that aren't removed
  pub rows-are : seven (λ c. figure c t) ≡ count_by (λ id. not (eqb (state_at t.symbols id) removed_state)) (ids t.link.symbols)
  rows-are = Listed.rows-in t

-- ---- its walk, over every sequence of calls of a walk that was begun

module _ (key : ℕ) (a : Archives) (l : List ℕ) (begun : begun_number (start_of key a l).started.begun ≡ 0) (ts : List Table) where
  abbrev run : Run
  run = history a ts (start_run key a l)

  module _ (t : Title) (walk-is : t.walk ≡ run.walk) where
    -- the members that its calls handed out
    pub offered-is : figure 7 t ≡ length run.offers
    offered-is = ap (λ (w : Walk). w.offered) walk-is ∙ Passes.offered-is key a l begun ts

    -- the calls that made a pass
    pub passes-are : figure 8 t ≡ passes_made a ts (start_run key a l)
    passes-are = ap (λ (w : Walk). w.passes) walk-is ∙ Passes.passes-are key a l begun ts

-- ---- its sections

module _ (t : Title) where
  pub kept-are : figure 9 t ≡ length (in_state t.sections t.link.sections built_state)
  unfolding is_in_state
  kept-are = Counts.count-list (is_in_state t.sections built_state) t.link.sections

  pub dropped-are : figure 10 t ≡ length (in_state t.sections t.link.sections dropped_state)
  unfolding is_in_state
  dropped-are = Counts.count-list (is_in_state t.sections dropped_state) t.link.sections

  pub kept-bytes-are : figure 11 t ≡ bytes_of t.sections t.link.sections built_state
  unfolding is_in_state sum_below
  kept-bytes-are = refl

  pub dropped-bytes-are : figure 12 t ≡ bytes_of t.sections t.link.sections dropped_state
  unfolding is_in_state sum_below
  dropped-bytes-are = refl

  -- a section as a merge builds it, whatever came since: it counts as kept, with the size that the object says (merge_laws, link_laws)
  pub built-sizes : (bytes names lists : List ℕ) (r : ℕ) (x : List ℕ) (kind retain read size : ℕ) (symbols : List ℕ)
      → BuiltAs bytes names t.sections lists t.link r x kind retain read size symbols → (is_in_state t.sections built_state r ≡ true) × (size_in t.sections r ≡ size)
  unfolding is_in_state
  built-sizes bytes names lists r x kind retain read size symbols b = (eq-eqb _ _ b.built, b.sized)

-- ---- before a collection that isn't refused, and after it

module _ (l : Link) (x : Lists) (symbols sections : List ℕ) (entry : Option SymbolId) (work : List ℕ) (a b : ℕ) where
  abbrev r : Left
  r = run_of l x symbols sections entry work

  module _ (ok : r.answer ≡ Ok (dropped a b)) (slots : l.sections ≤ l.slots) (w : Walk) where
    abbrev before : Title
    before = record { link = l; symbols = symbols; sections = sections; walk = w }

    abbrev after : Title
    after = record { link = r.link; symbols = r.symbols; sections = r.sections; walk = w }

    -- no row's size moves
    pub size-stays : (y : ℕ) → y < l.sections → size_in r.sections y ≡ size_in sections y
    size-stays = Collected.size-stays l x symbols sections entry work a b ok slots

    -- sections and bytes go from kept to dropped, and none is lost
    pub sections-kept : figure 9 after + figure 10 after ≡ figure 9 before + figure 10 before
    sections-kept = Collected.sections-after l x symbols sections entry work a b ok slots w

    pub bytes-kept : figure 11 after + figure 12 after ≡ figure 11 before + figure 12 before
    bytes-kept = Collected.bytes-after l x symbols sections entry work a b ok slots w

    -- what is kept is what relocations reach from the roots
    pub kept-reached : (y : ℕ) → y < l.sections → is_in_state r.sections built_state y ≡ true → Reached l x symbols sections entry y
    kept-reached = Collected.kept-reached l x symbols sections entry work a b ok slots

    pub reached-kept : (y : ℕ) → Reached l x symbols sections entry y → is_in_state r.sections built_state y ≡ true
    reached-kept = Collected.reached-kept l x symbols sections entry work a b ok slots

-- ---- a lot: titles that are accepted one after the other

pub totals-are : (ts : List Title) → AllAdded ts start → (k : ℕ) → k < 13 → total k (report_over ts start) ≡ sum_over k ts
totals-are = Totals.totals-are

pub titles-are : (ts : List Title) → AllAdded ts start → (report_over ts start).titles ≡ length ts
titles-are = Totals.titles-are

-- all are accepted just where there are at most 1,000, each is sound, and no sum is 2^64 or more
pub accepted-fits : (ts : List Title) → AllAdded ts start → Fits ts
accepted-fits = Totals.accepted-fits

pub fits-accepted : (ts : List Title) → Fits ts → AllAdded ts start
fits-accepted = Totals.fits-accepted

-- so in any order, with the same report
pub any-order : (ts us : List Title) → IsPermutation ts us → AllAdded ts start → AllAdded us start
any-order = Totals.any-order

pub same-totals : (ts us : List Title) → IsPermutation ts us → AllAdded ts start → report_over us start ≡ report_over ts start
same-totals = Totals.same-totals

-- a refused title leaves the report
pub refused-leaves : (r : Report) (t : Title) (e : Refusal) → (add_title_of r t).answer ≡ Err e → (add_title_of r t).report ≡ r
refused-leaves = Totals.refused-leaves

-- number and place of a refusal are those of the first rule that holds; where none holds, and only there, the answer is the title's line
pub title-exactly : (r : Report) (t : Title) → length r.totals.0 ≡ 13 → (add_title_of r t).answer ≡ answer_by (title_rules r t) (record { 0 = figures_of t })
title-exactly = TitleExactly.title-exactly
