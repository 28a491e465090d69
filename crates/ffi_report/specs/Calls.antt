-- What the exported call returns, and every lent cell after it. A report's cells: the titles, then the totals of the thirteen figures.
-- Assumes nothing.
use Rattle.std.specs.Prelude.{ℕ, ◌+◌, ◌||◌, cond, List, [], ◌∷◌, ltb, length, get_or, set, Result, Ok, Err}
use Rattle.link.specs.declared.cause.Refusal.{Refusal}
use Rattle.ffi_archive.specs.Cells.{walk_in}
use Rattle.ffi_cells.specs.Header.{Told, told, is_short, link_in, result_of, refusal_of, refused_of, answer_of}
use Rattle.lot_report.specs.Figures.{Title}
use Rattle.lot_report.specs.Report.{Added, add_title_of}
use Rattle.lot_report.specs.declared.Figures.{Figures}
use Rattle.lot_report.specs.declared.Report.{Report}

unfoldable pub figures_in : List ℕ → Figures
figures_in cells =
    record {
      0 = get_or cells 1 0 ∷ get_or cells 2 0 ∷ get_or cells 3 0 ∷ get_or cells 4 0 ∷ get_or cells 5 0 ∷ get_or cells 6 0 ∷ get_or cells 7 0 ∷ get_or cells 8 0 ∷ get_or cells 9 0 ∷ get_or cells 10 0 ∷ get_or cells 11 0 ∷ get_or cells 12 0 ∷ get_or cells 13 0 ∷ [];
    }

unfoldable pub report_in : List ℕ → Report
report_in cells = record { titles = get_or cells 0 0; totals = figures_in cells }

-- cells from a place on; those that aren't there are left out
unfoldable pub put_from : List ℕ → ℕ → List ℕ → List ℕ
put_from cells at [] = cells
put_from cells at (x ∷ xs) = put_from (set cells at x) (at + 1) xs

pub record TitleLeft : Type 0 where
  pub told : Told
  pub report : List ℕ
  pub figures : List ℕ

abbrev pub title_left : Told → List ℕ → List ℕ → TitleLeft
title_left t r f = record { told = t; report = r; figures = f }

-- an accepted title
unfoldable pub reported : List ℕ → List ℕ → List ℕ → Report → Figures → TitleLeft
reported h report figures r f = title_left (answer_of h (result_of 0 0 0 0)) (put_from (set report 0 r.titles) 1 r.totals.0) (put_from figures 0 f.0)

abbrev pub title_told : List ℕ → List ℕ → List ℕ → Report → Result Figures Refusal → TitleLeft
title_told h report figures r (Ok f) = reported h report figures r f
title_told h report figures r (Err e) = title_left (answer_of h (refused_of e)) report figures

abbrev pub title_added : List ℕ → List ℕ → List ℕ → Added → TitleLeft
title_added h report figures a = title_told h report figures a.report a.answer

abbrev pub title_in : List ℕ → List ℕ → List ℕ → List ℕ → Title
title_in h walk symbols sections = record { link = link_in h; symbols = symbols; sections = sections; walk = walk_in walk }

unfoldable pub title_call : List ℕ → List ℕ → List ℕ → List ℕ → List ℕ → List ℕ → TitleLeft
title_call h walk symbols sections report figures =
    cond (is_short h) (title_left (told 1 h) report figures)
    (cond (ltb (length walk) 7 || (ltb (length report) 14 || ltb (length figures) 13)) (title_left (answer_of h (refusal_of 1 0)) report figures)
    (title_added h report figures (add_title_of (report_in report) (title_in h walk symbols sections))))
