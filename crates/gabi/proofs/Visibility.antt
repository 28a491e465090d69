-- Laws of the definitions of Visibility.antt.
-- Assumes nothing.
use Rattle.std.specs.Prelude.{ℕ, zero, suc, ◌≤◌, ◌<◌, ◌≡◌, refl, Bool, true, ◌&&◌, eqb, ltb}
use Rattle.std.proofs.Common.{arith, ltb-true, ltb-false, eqb-true}
use Rattle.gabi.proofs.Split.{by-test, both}
use Rattle.gabi.specs.SymbolTable.{stv_default}
use Rattle.gabi.specs.Visibility.{rank, combine, Lawful}

-- ---- laws

-- the outcome is at least as constraining as each
pub constrains : (v w : ℕ) → (rank v ≤ rank (combine v w)) × (rank w ≤ rank (combine v w))
unfolding combine
constrains v w =
    by-test (ltb (rank v) (rank w)) (λ t. rw t (omega (arith, ltb-true))) (λ t. rw t (omega (arith, ltb-false)))

test : ℕ → ℕ → ℕ → Bool
test a b c =
    eqb (combine a b) (combine b a) && (eqb (combine (combine a b) c) (combine a (combine b c)) && (eqb (combine a a) a && eqb (combine stv_default a) a))

four : (ℕ → Bool) → Bool
four f = f 0 && (f 1 && (f 2 && f 3))

at : (f : ℕ → Bool) → four f ≡ true → (v : ℕ) → v < 4 → f v ≡ true
unfolding four
at f e zero h = (both (f 0) _ e).0
at f e (suc zero) h = (both (f 1) _ (both (f 0) _ e).1).0
at f e (suc (suc zero)) h = (both (f 2) _ (both (f 1) _ (both (f 0) _ e).1).1).0
at f e (suc (suc (suc zero))) h = (both (f 2) _ (both (f 1) _ (both (f 0) _ e).1).1).1
at f e (suc (suc (suc (suc v)))) h = absurd (omega arith)

tested : four (λ a. four (λ b. four (λ c. test a b c))) ≡ true
unfolding four test rank combine
tested = refl

pub lawful : (a b c : ℕ) → a < 4 → b < 4 → c < 4 → Lawful a b c
unfolding test
lawful a b c ha hb hc =
    let t : test a b c ≡ true = at (λ c. test a b c) (at (λ b. four (λ c. test a b c)) (at (λ a. four (λ b. four (λ c. test a b c))) tested a ha) b hb) c hc in
    let (p, q) = both _ _ t in
    let (r, s) = both _ _ q in
    let (u, w) = both _ _ s in
    record { commutes = eqb-true _ _ p; associates = eqb-true _ _ r; idempotent = eqb-true _ _ u; neutral = eqb-true _ _ w }
