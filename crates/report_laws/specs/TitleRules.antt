-- Where a title is refused: rule by rule, in order, with the number and the place that each gives; the first that holds gives the answer. No test uses a
-- definition of the call. Words for statements: no function and no contract has them.
-- Assumes nothing.
use Rattle.std.specs.Prelude.{ℕ, zero, suc, ◌+◌, ◌/◌, Bool, false, cond, not, ◌||◌, List, [], ◌∷◌, ltb, length, Result, Ok, Err}
use Rattle.link.specs.declared.Link.{Link}
use Rattle.link.specs.declared.cause.Refusal.{Refusal}
use Rattle.lot_report.specs.declared.Figures.{Figures}
use Rattle.lot_report.specs.declared.Report.{Report}
use Rattle.lot_report.specs.Figures.{Title}
use Rattle.report_laws.specs.Lot.{figure, total}

pub record Rule : Type 0 where
  pub holds : Bool
  pub number : ℕ
  pub place : ℕ

infix 5 ◌gives◌at◌
abbrev pub ◌gives◌at◌ : Bool → ℕ → ℕ → Rule
◌gives◌at◌ b n p = record { holds = b; number = n; place = p }

-- a line where none holds, else number and place of the first that does
abbrev pub answer_by : List Rule → Figures → Result Figures Refusal
answer_by [] f = Ok f
answer_by (r ∷ rs) f = cond r.holds (Err (record { number = r.number; place = r.place })) (answer_by rs f)

-- the lesser
abbrev pub least : ℕ → ℕ → ℕ
least a b = cond (ltb a b) a b

-- one of the first n totals would be 2^64 or more with the title's figure
unfoldable pub is_past : Report → Title → ℕ → Bool
is_past r t zero = false
is_past r t (suc k) = not (ltb (total k r + figure k t) 0x10000000000000000) || is_past r t k

-- 1 at the first row past what a count can have: sections' rows (9 cells each) and symbols' (8) are lent, of the rest the counts alone are looked at; then 1 at
-- 1,000 in a full report; then 31 at the number of titles before this one
abbrev pub title_rules : Report → Title → List Rule
title_rules r t =
    (ltb (length t.sections / 9) t.link.slots gives 1 at (length t.sections / 9))
    ∷ (ltb 65535 t.link.sections || ltb t.link.slots t.link.sections gives 1 at least 65535 t.link.slots)
    ∷ (ltb 65535 t.link.symbols || ltb (length t.symbols / 8) t.link.symbols gives 1 at least 65535 (length t.symbols / 8))
    ∷ (ltb t.link.chains t.link.names gives 1 at t.link.chains)
    ∷ (ltb 1048576 t.link.bytes gives 1 at 1048576)
    ∷ (ltb 4095 t.link.inputs gives 1 at 4095)
    ∷ (ltb 0xffffffffffffffff t.link.lists gives 1 at 0xffffffffffffffff)
    ∷ (not (ltb r.titles 1000) gives 1 at 1000)
    ∷ (is_past r t 13 gives 31 at r.titles)
    ∷ []
