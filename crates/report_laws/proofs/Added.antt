-- A title that is added, and titles in a row.
-- Assumes nothing.
use Rattle.std.specs.Prelude.{ℕ, zero, suc, ◌+◌, ◌<◌, ◌≤◌, ◌≡◌, refl, Bool, true, false, cond, List, [], ◌∷◌, eqb, ltb, get_or, length, All, sum_by, is_ok, Result, Ok, Err}
use Rattle.std.proofs.Common.{arith, sym, ap, ◌∙◌, eqb-true, ltb-true, ltb-false}
use borrow.Author.Tests.{eq-eqb, lt-ltb}
use Rattle.std.proofs.lemmas.List.Sums.{sum_by-cons}
use Rattle.cells.specs.Proof.Split.{by-test}
use Rattle.link.specs.Judge.{judge_of}
use Rattle.lot_report.specs.declared.Report.{Report}
use Rattle.lot_report.specs.Count.{bound}
use Rattle.lot_report.specs.Figures.{Title, figures_of, plus_of, fits_of}
use Rattle.lot_report.specs.Report.{lent_in, report_of, added, counted_of, add_title_of}
use Rattle.lot_report.specs.Proof.Sums.{plus-at, plus-long, fits-all}
use Rattle.report_laws.specs.Lot.{figure, total, report_over, AllAdded, Sound, sum_over}

no : false ≡ true → ⊥
no e = let z : ◌≡◌ {A = ℕ} 0 1 = cc in omega arith

-- the other way of `fits-all`
pub fits-each : (xs : List ℕ) (j : ℕ) → fits_of xs ≡ true → j < length xs → get_or xs j 0 < bound
unfolding fits_of
fits-each [] j e h = absurd (omega arith)
fits-each (x ∷ xs) zero e h = by-test (ltb x bound) (λ t. ltb-true x bound t) (λ t. absurd (no (rw t at e)))
fits-each (x ∷ xs) (suc j) e h = by-test (ltb x bound) (λ t. fits-each xs j (rw t at e) (omega arith)) (λ t. absurd (no (rw t at e)))

-- a report as they are made
pub record Standing (r : Report) : Type 0 where
  pub long : length r.totals.0 ≡ 13
  pub few : r.titles ≤ 1000
  pub small : (k : ℕ) → k < 13 → total k r < bound

-- what an accepted title says, and leaves
record Step (r : Report) (t : Title) : Type 0 where
  sound : Sound t
  few : r.titles < 1000
  fits : fits_of (plus_of r.totals.0 (figures_of t)) ≡ true
  leaves : (add_title_of r t).report ≡ report_of (r.titles + 1) (record { 0 = plus_of r.totals.0 (figures_of t) })

step : (r : Report) (t : Title) → is_ok (add_title_of r t).answer ≡ true → Step r t
unfolding add_title_of counted_of
step r t e =
    by-test (eqb (judge_of t.link (lent_in t)).number 0)
    (λ a.
    by-test (ltb r.titles 1000)
    (λ b.
    by-test (fits_of (plus_of r.totals.0 (figures_of t)))
    (λ c. record { sound = eqb-true _ _ a; few = ltb-true _ _ b; fits = c; leaves = rw (a, b, c) refl })
    (λ c. absurd (no (rw (a, b, c) at e))))
    (λ b. absurd (no (rw (a, b) at e))))
    (λ a. absurd (no (rw a at e)))

-- and is accepted where that holds
accepted : (r : Report) (t : Title) → Sound t → r.titles < 1000 → fits_of (plus_of r.totals.0 (figures_of t)) ≡ true → is_ok (add_title_of r t).answer ≡ true
unfolding add_title_of counted_of
accepted r t s f c = rw (eq-eqb _ _ s, lt-ltb _ _ f, c) refl

module _ (r : Report) (t : Title) (h : Standing r) where
  abbrev next : Report
  next = report_of (r.titles + 1) (record { 0 = plus_of r.totals.0 (figures_of t) })

  next-long : length (plus_of r.totals.0 (figures_of t)) ≡ 13
  next-long = plus-long r.totals.0 (figures_of t) h.long ∙ h.long

  pub next-total : (k : ℕ) → k < 13 → total k next ≡ total k r + figure k t
  next-total k l = plus-at r.totals.0 (figures_of t) k (omega (arith, h.long)) l

  standing : r.titles < 1000 → fits_of (plus_of r.totals.0 (figures_of t)) ≡ true → Standing next
  standing f e = record { long = next-long; few = omega (arith, f); small = λ k l. fits-each (plus_of r.totals.0 (figures_of t)) k e (omega (arith, next-long, l)) }

-- ---- titles in a row

-- accepted from r on: what they are, and the report behind them
pub record Over (ts : List Title) (r s : Report) : Type 0 where
  pub few : r.titles + length ts ≤ 1000
  pub sound : All Sound ts
  pub small : (k : ℕ) → k < 13 → total k r + sum_over k ts < bound
  pub counted : s.titles ≡ r.titles + length ts
  pub totals : (k : ℕ) → k < 13 → total k s ≡ total k r + sum_over k ts
  pub long : length s.totals.0 ≡ 13

all-cons : (t : Title) (ts : List Title) → Sound t → All Sound ts → All Sound (t ∷ ts)
all-cons t ts p q zero d h = p
all-cons t ts p q (suc k) d h = q k d (omega arith)

all-first : (t : Title) (ts : List Title) → All Sound (t ∷ ts) → Sound t
all-first t ts q = q 0 t (omega arith)

all-rest : (t : Title) (ts : List Title) → All Sound (t ∷ ts) → All Sound ts
all-rest t ts q k d h = q (suc k) d (omega arith)

pub over : (ts : List Title) (r : Report) → Standing r → AllAdded ts r → Over ts r (report_over ts r)
over [] r h q =
    record {
      few = omega (arith, h.few);
      sound = λ k d l. absurd (omega arith);
      small = λ k l. omega (arith, h.small k l);
      counted = omega arith;
      totals = λ k l. omega arith;
      long = h.long;
    }
over (t ∷ ts) r h q =
    let s : Step r t = step r t q.0 in
    let stands : Standing (next r t h) = standing r t h s.few s.fits in
    finish s (add_title_of r t).report s.leaves (over ts (next r t h) stands (rw s.leaves at q.1))
  where
    finish : Step r t → (u : Report) → u ≡ next r t h → Over ts (next r t h) (report_over ts (next r t h)) → Over (t ∷ ts) r (report_over ts u)
    finish s u e x =
        rw e
        (record {
          few = omega (arith, x.few);
          sound = all-cons t ts s.sound x.sound;
          small = λ k l. omega (arith, x.small k l, next-total r t h k l, sum_by-cons (figure k) t ts);
          counted = omega (arith, x.counted);
          totals = λ k l. omega (arith, x.totals k l, next-total r t h k l, sum_by-cons (figure k) t ts);
          long = x.long;
        })

pub all-added : (ts : List Title) (r : Report) → Standing r → r.titles + length ts ≤ 1000 → All Sound ts
    → ((k : ℕ) → k < 13 → total k r + sum_over k ts < bound) → AllAdded ts r
all-added [] r h f s b = tt
all-added (t ∷ ts) r h f s b =
    let small : (k : ℕ) → k < 13 → total k r + figure k t < bound = λ k l. omega (arith, b k l, sum_by-cons (figure k) t ts) in
    let fits : fits_of (plus_of r.totals.0 (figures_of t)) ≡ true =
    fits-all (plus_of r.totals.0 (figures_of t)) (λ k l. let m : k < 13 = rw (next-long r t h) at l in rw (next-total r t h k m) (small k m)) in
    let few : r.titles < 1000 = omega (arith, f) in
    let e : is_ok (add_title_of r t).answer ≡ true = accepted r t (all-first t ts s) few fits in (
      e,
      rw (step r t e).leaves
          (all-added ts (next r t h) (standing r t h few fits) (omega (arith, f)) (all-rest t ts s)
          (λ k l. omega (arith, b k l, next-total r t h k l, sum_by-cons (figure k) t ts))),
    )
