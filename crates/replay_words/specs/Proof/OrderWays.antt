-- The order of names is that of std's slices.
-- Assumes nothing.
use Rattle.std.specs.Prelude.{◌≡◌, refl, ℕ, ◌<◌, true, false, List, [], ◌∷◌, ◌==◌, nat_lt, Some}
use Rattle.std.proofs.Common.{arith, ltb-true}
use Rattle.std.specs.Ordering.{nat_cmp, is_some_and, is_lt}
use Rattle.std.specs.Cmp.Lexicographic.{slice_partial_cmp}
use borrow.Author.Tests.{ne_eqb}
use Rattle.cells.specs.Proof.Split.{by-test}
use Rattle.replay_words.specs.Order.{before_of}

pub before-is : (a b : List ℕ) → is_some_and is_lt (slice_partial_cmp (λ x y. Some (nat_cmp x y)) a b) ≡ before_of a b
unfolding before_of
before-is [] [] = refl
before-is [] (y ∷ ys) = refl
before-is (x ∷ xs) [] = refl
before-is (x ∷ xs) (y ∷ ys) =
    by-test (nat_lt x y)
    (λ h. let l : x < y = ltb-true x y h in rw (h, ne_eqb x y (λ e. omega arith)))
    (λ h. by-test (x == y) (λ e. rw (h, e) (before-is xs ys)) (λ e. rw (h, e)))
