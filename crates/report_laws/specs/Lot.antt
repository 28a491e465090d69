-- A lot: titles added one after the other. Words for statements: no function and no contract has them.
-- Assumes nothing.
use Rattle.std.specs.Prelude.{ℕ, ◌+◌, ◌<◌, ◌≤◌, ◌≡◌, Bool, true, List, [], ◌∷◌, get_or, length, All, sum_by, replicate, is_ok}
use Rattle.link.specs.Judge.{judge_of}
use Rattle.lot_report.specs.declared.Report.{Report}
use Rattle.lot_report.specs.Count.{bound}
use Rattle.lot_report.specs.Figures.{Title, figures_of}
use Rattle.lot_report.specs.Report.{lent_in, add_title_of, report_of}

-- a title's figure by its column
abbrev pub figure : ℕ → Title → ℕ
figure k t = get_or (figures_of t) k 0

-- a total of the report
abbrev pub total : ℕ → Report → ℕ
total k r = get_or r.totals.0 k 0

-- the new report
abbrev pub start : Report
start = report_of 0 (record { 0 = replicate 13 0 })

-- what is left of a report by titles in their order, whatever is answered to each
abbrev pub report_over : List Title → Report → Report
report_over [] r = r
report_over (t ∷ ts) r = report_over ts (add_title_of r t).report

-- each is accepted where it is added
abbrev pub AllAdded : List Title → Report → Type 0
AllAdded [] r = Unit {0}
AllAdded (t ∷ ts) r = (is_ok (add_title_of r t).answer ≡ true) × AllAdded ts (add_title_of r t).report

-- no count of its link is above what is lent
abbrev pub Sound : Title → Type 0
Sound t = (judge_of t.link (lent_in t)).number ≡ 0

-- the sum of a figure over titles
abbrev pub sum_over : ℕ → List Title → ℕ
sum_over k ts = sum_by (figure k) ts

-- what a lot has to be: at most 1,000 titles, and no sum of 2^64 or more
pub record Fits (ts : List Title) : Type 0 where
  pub few : length ts ≤ 1000
  pub sound : All Sound ts
  pub small : (k : ℕ) → k < 13 → sum_over k ts < bound
