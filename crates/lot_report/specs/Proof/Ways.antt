-- The ways through adding a title.
-- Assumes nothing.
use Rattle.std.specs.List.{range_with_len}
use Rattle.std.proofs.lemmas.List.Elements.{filter-append}
use Rattle.std.proofs.lemmas.List.Sums.{sum_by-append, length-filter}
use Rattle.std.specs.Prelude.{ℕ, zero, suc, ◌+◌, ◌-◌, ◌<◌, ◌≤◌, ◌≡◌, refl, Bool, true, false, cond, List, [], ◌∷◌, ◌++◌, count_by, sum_by, filter, eqb, ltb, get_or, set, length, Option, Some, None, Result, Ok, Err}
use Rattle.std.proofs.Common.{arith, add-one, sym, ap, ◌∙◌, eqb-true, ltb-true, ltb-false, length-append, length-set, get_or-set_same, get_or-set_other, ext_get_or}
use Rattle.std.proofs.lemmas.Bool.{eqb-false}
use borrow.Author.Tests.{eq-eqb, ne_eqb, lt-ltb, le-ltb}
use Rattle.cells.specs.Proof.Split.{by-test}
use Rattle.lot_report.specs.Count.{ids, count_below, sum_below, bound, checked}
use Rattle.lot_report.specs.Figures.{plus_of, fits_of}
use Rattle.lot_report.specs.declared.Figures.{Figures}
use Rattle.lot_report.specs.declared.Report.{Report}
use Rattle.lot_report.specs.Report.{line_of, lent_in, report_of, added, counted_of, add_title_of}
use Rattle.lot_report.specs.Figures.{Title, figures_of}
use Rattle.link.specs.declared.cause.Refusal.{Refusal}
use Rattle.link.specs.Judge.{judged, judge_of, refused}
use Rattle.link.specs.Proof.Judged.{judged-err, judged-refused, judged-fine}
use Rattle.lot_report.specs.Proof.Sums.{line-none, line-some}

-- ---- a title that is added

-- what is too large already is too large with what came before
plus-not : (a xs : List ℕ) → length a ≡ length xs → fits_of xs ≡ false → fits_of (plus_of a xs) ≡ false
unfolding plus_of fits_of
plus-not [] [] e h = h
plus-not [] (x ∷ xs) e h = absurd (omega (arith, e))
plus-not (a ∷ bs) [] e h = absurd (omega (arith, e))
plus-not (a ∷ bs) (x ∷ xs) e h =
    by-test (ltb x bound)
    (λ t.
    by-test (ltb (a + x) bound) (λ u. rw u (plus-not bs xs (omega (arith, e)) (rw t at h))) (λ u. rw u))
    (λ t. let n : ltb (a + x) bound ≡ false = le-ltb (a + x) bound (omega (arith, ltb-false x bound t)) in rw n)

module _ (r : Report) (t : Title) where
  pub judge-refused : (e : Refusal) → judged (judge_of t.link (lent_in t)) ≡ Err e → added r (Err e) ≡ add_title_of r t
  unfolding add_title_of
  judge-refused e q =
      rw (ne_eqb _ _ (judged-refused (judge_of t.link (lent_in t)) e q), judged-err (judge_of t.link (lent_in t)) e q) refl

  module _ (u : Unit) (q : judged (judge_of t.link (lent_in t)) ≡ Ok u) where
    fine : eqb (judge_of t.link (lent_in t)).number 0 ≡ true
    fine = eq-eqb _ _ (judged-fine (judge_of t.link (lent_in t)) u q)

    pub report-full : 1000 ≤ r.titles → added r (Err (refused 1 1000)) ≡ add_title_of r t
    unfolding add_title_of
    report-full h = rw (fine, le-ltb r.titles 1000 h)

    module _ (h : r.titles < 1000) where
      pub own-past : length r.totals.0 ≡ 13 → ◌≡◌ {A = Option Figures} (line_of (figures_of t)) None → added r (Err (refused 31 r.titles)) ≡ add_title_of r t
      unfolding add_title_of counted_of
      own-past n e = rw (fine, lt-ltb r.titles 1000 h, plus-not r.totals.0 (figures_of t) n (line-none _ e))

      module _ (f : Figures) (k : line_of (figures_of t) ≡ Some f) where
        pub total-past : ◌≡◌ {A = Option Figures} (line_of (plus_of r.totals.0 f.0)) None → added r (Err (refused 31 r.titles)) ≡ add_title_of r t
        unfolding add_title_of counted_of
        total-past e =
            let v : f.0 ≡ figures_of t = ap (λ (x : Figures). x.0) (line-some _ f k).1 in
            rw (fine, lt-ltb r.titles 1000 h, rw v at (line-none _ e))

        pub title-added : (g : Figures) → line_of (plus_of r.totals.0 f.0) ≡ Some g → added (report_of (r.titles + 1) g) (Ok f) ≡ add_title_of r t
        unfolding add_title_of counted_of
        title-added g e =
            let (x, v) = line-some _ f k in
            let v′ : f.0 ≡ figures_of t = ap (λ (x : Figures). x.0) v in
            let (y, w) = line-some _ g (rw v′ at e) in
            rw (fine, lt-ltb r.titles 1000 h, y, v, w)
