-- Each symbol row that isn't removed is in one column, and the seven columns are all of them.
-- Assumes nothing.
use Rattle.std.specs.Prelude.{ℕ, zero, suc, ◌+◌, ◌<◌, ◌≡◌, refl, Bool, true, false, not, cond, List, eqb}
use Rattle.std.proofs.Common.{arith, sym, ap, ◌∙◌, eqb-true}
use Rattle.std.proofs.lemmas.Bool.{eqb-false}
use Rattle.cells.specs.Proof.Split.{by-test}
use Rattle.symbol.specs.Row.{state_at, kind_at}
use Rattle.lot_report.specs.Count.{count_below}
use Rattle.lot_report.specs.Figures.{column_of, is_listed}
use Rattle.report_laws.specs.Listed.{seven}
use Rattle.report_laws.proofs.Counts.{count-suc, count-none}

abbrev is_unremoved : List ℕ → ℕ → Bool
is_unremoved symbols id = not (eqb (state_at symbols id) 2)

column-small : (k : ℕ) → column_of k < 7
unfolding column_of
column-small k =
    by-test (eqb k 1) (λ t. rw t (omega arith))
    (λ t1.
    by-test (eqb k 2) (λ t. rw (t1, t) (omega arith))
    (λ t2.
    by-test (eqb k 3) (λ t. rw (t1, t2, t) (omega arith))
    (λ t3.
    by-test (eqb k 4) (λ t. rw (t1, t2, t3, t) (omega arith))
    (λ t4.
    by-test (eqb k 5) (λ t. rw (t1, t2, t3, t4, t) (omega arith))
    (λ t5.
    by-test (eqb k 6) (λ t. rw (t1, t2, t3, t4, t5, t) (omega arith))
    (λ t6.
    by-test (eqb k 7) (λ t. rw (t1, t2, t3, t4, t5, t6, t) (omega arith))
    (λ t7. by-test (eqb k 8) (λ t. rw (t1, t2, t3, t4, t5, t6, t7, t) (omega arith)) (λ t. rw (t1, t2, t3, t4, t5, t6, t7, t) (omega arith)))))))))

abbrev bit : Bool → ℕ
bit b = cond b 1 0

in-one : (v : ℕ) → v < 7 → seven (λ c. bit (eqb v c)) ≡ 1
in-one v h =
    by-test (eqb v 0) (λ t. rw (eqb-true _ _ t) refl)
    (λ t0.
    by-test (eqb v 1) (λ t. rw (eqb-true _ _ t) refl)
    (λ t1.
    by-test (eqb v 2) (λ t. rw (eqb-true _ _ t) refl)
    (λ t2.
    by-test (eqb v 3) (λ t. rw (eqb-true _ _ t) refl)
    (λ t3.
    by-test (eqb v 4) (λ t. rw (eqb-true _ _ t) refl)
    (λ t4.
    by-test (eqb v 5) (λ t. rw (eqb-true _ _ t) refl)
    (λ t5.
    by-test (eqb v 6) (λ t. rw (eqb-true _ _ t) refl)
    (λ t6.
    absurd (omega (arith, h, eqb-false _ _ t0, eqb-false _ _ t1, eqb-false _ _ t2, eqb-false _ _ t3, eqb-false _ _ t4, eqb-false _ _ t5, eqb-false _ _ t6)))))))))

module _ (symbols : List ℕ) where
  row-one : (id : ℕ) → seven (λ c. bit (is_listed symbols c id)) ≡ bit (is_unremoved symbols id)
  unfolding is_listed
  row-one id =
      by-test (eqb (state_at symbols id) 2) (λ t. rw t refl) (λ t. rw t (in-one (column_of (kind_at symbols id)) (column-small (kind_at symbols id))))

  -- so the first seven figures add up to the rows that aren't removed
  pub rows-are : (n : ℕ) → seven (λ c. count_below (is_listed symbols c) n) ≡ count_below (is_unremoved symbols) n
  rows-are zero =
      omega (
        arith,
        count-none (is_listed symbols 0),
        count-none (is_listed symbols 1),
        count-none (is_listed symbols 2),
        count-none (is_listed symbols 3),
        count-none (is_listed symbols 4),
        count-none (is_listed symbols 5),
        count-none (is_listed symbols 6),
        count-none (is_unremoved symbols),
      )
  rows-are (suc n) =
      omega (
        arith,
        rows-are n,
        row-one n,
        count-suc (is_listed symbols 0) n,
        count-suc (is_listed symbols 1) n,
        count-suc (is_listed symbols 2) n,
        count-suc (is_listed symbols 3) n,
        count-suc (is_listed symbols 4) n,
        count-suc (is_listed symbols 5) n,
        count-suc (is_listed symbols 6) n,
        count-suc (is_unremoved symbols) n,
      )
