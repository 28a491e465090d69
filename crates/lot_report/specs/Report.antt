-- A title that is added to a report: its line, and what the report is then. A title that is refused leaves the report.
-- Assumes nothing.
use Rattle.std.specs.Prelude.{ℕ, ◌+◌, ◌/◌, cond, List, eqb, ltb, length, Option, Some, None, Result, Ok, Err}
use Rattle.link.specs.declared.Link.{Link}
use Rattle.link.specs.declared.Lent.{Lent}
use Rattle.link.specs.declared.cause.Refusal.{Refusal}
use Rattle.link.specs.Bounds.{not_lent, section_slots}
use Rattle.link.specs.Judge.{refused, judge_of}
use Rattle.link.specs.Cause.{number_of}
use Rattle.link.specs.declared.cause.Cause.{Cause}
use Rattle.lot_report.specs.Figures.{Title, figures_of, plus_of, fits_of}
use Rattle.lot_report.specs.declared.Title as Lent
use Rattle.lot_report.specs.declared.Figures.{Figures}
use Rattle.lot_report.specs.declared.Report.{Report}

abbrev pub title_read : Lent.Title → Title
title_read t = record { link = t.link; symbols = t.symbols.now; sections = t.sections.now; walk = t.walk }

-- a line whose figures 64 bits hold
unfoldable pub line_of : List ℕ → Option Figures
line_of xs = cond (fits_of xs) (Some (record { 0 = xs })) None

abbrev pub lent_in : Title → Lent
lent_in t =
    record {
      names = t.link.chains;
      bytes = not_lent;
      symbols = length t.symbols;
      sections = section_slots (length t.sections);
      inputs = not_lent;
      lists = not_lent;
    }

abbrev pub most_titles : ℕ
most_titles = 1000

abbrev pub report_of : ℕ → Figures → Report
report_of n f = record { titles = n; totals = f }

-- what a title leaves and answers
pub record Added : Type 0 where
  pub report : Report
  pub answer : Result Figures Refusal

abbrev pub added : Report → Result Figures Refusal → Added
added r a = record { report = r; answer = a }

-- a sum of 2^64 or more is refused with the number of titles before; a title's own sums are no more than the totals with it
unfoldable pub counted_of : Report → List ℕ → Added
counted_of r xs =
    cond (fits_of (plus_of r.totals.0 xs)) (added (report_of (r.titles + 1) (record { 0 = plus_of r.totals.0 xs })) (Ok (record { 0 = xs })))
    (added r (Err (refused (number_of Cause.SumTooLarge) r.titles)))

-- a count above what is lent is refused with 1 as elsewhere, then the title after 1,000
unfoldable pub add_title_of : Report → Title → Added
add_title_of r t =
    cond (eqb (judge_of t.link (lent_in t)).number 0)
    (cond (ltb r.titles most_titles) (counted_of r (figures_of t)) (added r (Err (refused (number_of Cause.OutOfRange) most_titles))))
    (added r (Err (judge_of t.link (lent_in t))))
