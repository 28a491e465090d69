-- What a row more adds to a count and to a sum, and both as lists.
-- Assumes nothing.
use Rattle.std.specs.Prelude.{ℕ, suc, ◌+◌, ◌≡◌, refl, Bool, cond, length, count_by, filter}
use Rattle.std.proofs.Common.{arith, sym, ap, ◌∙◌, add-one}
use Rattle.std.proofs.lemmas.List.Sums.{length-filter}
use Rattle.cells.specs.Proof.Split.{by-test}
use Rattle.lot_report.specs.Count.{ids, count_below, sum_below}
use Rattle.lot_report.specs.Proof.Sums as Sums

module _ (p : ℕ → Bool) where
  pub count-none : count_below p 0 ≡ 0
  count-none = sym (Sums.count-none p)

  pub count-suc : (n : ℕ) → count_below p (suc n) ≡ count_below p n + cond (p n) 1 0
  count-suc n =
      sym (ap (count_below p) (add-one n)) ∙ by-test (p n) (λ t. rw (Sums.count-next p n, t) refl) (λ t. rw (Sums.count-next p n, t) (omega arith))

  pub count-list : (n : ℕ) → count_below p n ≡ length (filter p (ids n))
  unfolding count_below
  count-list n = sym (length-filter p (ids n))

  module _ (f : ℕ → ℕ) where
    pub sum-none : sum_below p f 0 ≡ 0
    sum-none = sym (Sums.sum-none p f)

    pub sum-suc : (n : ℕ) → sum_below p f (suc n) ≡ sum_below p f n + cond (p n) (f n) 0
    sum-suc n =
        sym (ap (sum_below p f) (add-one n)) ∙ by-test (p n) (λ t. rw (Sums.sum-next p f n, t) refl) (λ t. rw (Sums.sum-next p f n, t) (omega arith))
