-- A number among some.
-- Assumes nothing.
use Rattle.std.specs.Prelude.{ℕ, ◌≡◌, true, List, [], ◌∷◌, eqb}
use Rattle.std.proofs.Common.{ap, ◌∙◌, eqb-true}
use Rattle.std.proofs.lemmas.Bool.{false≢true}
use Rattle.cells.specs.Proof.Split.{by-test}
use Rattle.merge_laws.specs.Table.{one_of, within}

pub one-within : (n : ℕ) (xs ys : List ℕ) → within xs ys ≡ true → one_of n xs ≡ true → one_of n ys ≡ true
one-within n [] ys w e = absurd (false≢true e)
one-within n (x ∷ xs) ys w e =
    by-test (one_of x ys)
    (λ a.
    by-test (eqb n x) (λ b. ap (λ (k : ℕ). one_of k ys) (eqb-true _ _ b) ∙ a) (λ b. one-within n xs ys (rw a at w) (rw b at e)))
    (λ a. absurd (false≢true (rw a at w)))

-- a result, or one of these
abbrev pub Among : List ℕ → ℕ → Type 0
Among xs n = one_of n (0 ∷ xs) ≡ true
