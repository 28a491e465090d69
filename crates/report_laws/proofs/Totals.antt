-- The totals of a report are the sums over the titles added, in whatever order they came.
-- Assumes nothing.
use Rattle.std.specs.Prelude.{ℕ, zero, suc, ◌+◌, ◌<◌, ◌≤◌, ◌≡◌, refl, List, [], ◌∷◌, get_or, length, All, sum_by, replicate, IsPermutation, eqb, ltb, Result, Ok, Err}
use Rattle.std.proofs.Common.{arith, sym, ap, ◌∙◌, ext_get_or}
use Rattle.std.proofs.lemmas.List.{get_or-replicate}
use Rattle.std.proofs.lemmas.List.Sorted.{All-permutation, length_permutation, sum_by-IsPermutation}
use Rattle.std.proofs.lemmas.List.Sums.{sum_by-cons}
use Rattle.link.specs.declared.cause.Refusal.{Refusal}
use Rattle.lot_report.specs.declared.Report.{Report}
use Rattle.lot_report.specs.declared.Figures.{Figures}
use Rattle.lot_report.specs.Count.{bound}
use Rattle.cells.specs.Proof.Split.{by-test}
use Rattle.link.specs.Judge.{judge_of}
use Rattle.lot_report.specs.Figures.{Title, figures_of, plus_of, fits_of}
use Rattle.lot_report.specs.Report.{report_of, lent_in, counted_of, add_title_of}
use Rattle.report_laws.specs.Lot.{start, figure, total, report_over, AllAdded, Sound, sum_over, Fits}
use Rattle.report_laws.proofs.Added.{Standing, Over, over, all-added}

start-total : (k : ℕ) → k < 13 → total k start ≡ 0
start-total k h = get_or-replicate 13 k 0 0 h

stands : Standing start
stands = record { long = refl; few = omega arith; small = λ k l. rw (start-total k l) (omega arith) }

-- figure by figure, and how many titles
pub totals-are : (ts : List Title) → AllAdded ts start → (k : ℕ) → k < 13 → total k (report_over ts start) ≡ sum_over k ts
totals-are ts q k l = omega (arith, (over ts start stands q).totals k l, start-total k l)

pub titles-are : (ts : List Title) → AllAdded ts start → (report_over ts start).titles ≡ length ts
titles-are ts q = omega (arith, (over ts start stands q).counted)

-- all are accepted just where there are at most 1,000 of them, each is sound, and no sum is 2^64 or more
pub accepted-fits : (ts : List Title) → AllAdded ts start → Fits ts
accepted-fits ts q =
    let x = over ts start stands q in
    record { few = omega (arith, x.few); sound = x.sound; small = λ k l. omega (arith, x.small k l) }

pub fits-accepted : (ts : List Title) → Fits ts → AllAdded ts start
fits-accepted ts f = all-added ts start stands (omega (arith, f.few)) f.sound (λ k l. omega (arith, f.small k l, start-total k l))

same_report : (n m : ℕ) (x y : List ℕ) → n ≡ m → x ≡ y → report_of n (record { 0 = x }) ≡ report_of m (record { 0 = y })
same_report n m x y p q = simp (p, q)

-- what is accepted whole in one order is in every order, with the same report
module _ (ts us : List Title) (same : IsPermutation ts us) (q : AllAdded ts start) where
  any-sum : (k : ℕ) → sum_over k us ≡ sum_over k ts
  any-sum k = sum_by-IsPermutation (figure k) ts us same

  pub any-order : AllAdded us start
  any-order =
      let f = accepted-fits ts q in
      fits-accepted us
      (record {
        few = omega (arith, f.few, length_permutation ts us same);
        sound = All-permutation Sound ts us same f.sound;
        small = λ k l. rw (any-sum k) (f.small k l);
      })

  pub same-totals : report_over us start ≡ report_over ts start
  same-totals =
      let a = over us start stands any-order in
      let b = over ts start stands q in
      let n : (report_over us start).titles ≡ (report_over ts start).titles = omega (arith, a.counted, b.counted, length_permutation ts us same) in
      let l : (report_over us start).totals.0 ≡ (report_over ts start).totals.0 =
      ext_get_or 0 _ _ (a.long ∙ sym b.long)
      (λ k h. let m : k < 13 = rw a.long at h in totals-are us any-order k m ∙ any-sum k ∙ sym (totals-are ts q k m)) in
      same_report _ _ _ _ n l

-- a refused title leaves titles and totals
module _ (r : Report) (t : Title) (e : Refusal) where
  pub refused-leaves : (add_title_of r t).answer ≡ Err e → (add_title_of r t).report ≡ r
  unfolding add_title_of counted_of
  refused-leaves q =
      by-test (eqb (judge_of t.link (lent_in t)).number 0)
      (λ a.
      by-test (ltb r.titles 1000)
      (λ b.
      by-test (fits_of (plus_of r.totals.0 (figures_of t)))
      (λ c. absurd (let z : ◌≡◌ {A = Result Figures Refusal} (Ok (record { 0 = figures_of t })) (Err e) = rw (a, b, c) at q in cc))
      (λ c. rw (a, b, c)))
      (λ b. rw (a, b)))
      (λ a. rw a)
