-- Rounds that reach more and more of n sections come to an end: after n of them a further one reaches none.
-- Assumes nothing.
use Rattle.std.specs.Prelude.{ℕ, zero, suc, ◌+◌, ◌<◌, ◌≤◌, ◌≡◌, Bool, true, false, cond, not, ◌&&◌, eqb}
use Rattle.std.proofs.Common.{arith, sym, ap, ◌∙◌, eqb-true}
use Rattle.std.proofs.lemmas.Bool.{false≢true, eqb-false, not-true}
use Rattle.cells.specs.Proof.Split.{by-test}
use Rattle.link_laws.specs.Rules.{some}
use Rattle.link_laws.proofs.LoadNeeded.{both, some-among, among-some}

-- how many of the first n pass
abbrev pub count : (ℕ → Bool) → ℕ → ℕ
count f zero = 0
count f (suc n) = cond (f n) 1 0 + count f n

count_low : (f : ℕ → Bool) (n : ℕ) → count f n ≤ n
count_low f zero = omega arith
count_low f (suc n) = by-test (f n) (λ e. rw e (omega (arith, count_low f n))) (λ e. rw e (omega (arith, count_low f n)))

module _ (f g : ℕ → Bool) where
  count-more : (n : ℕ) → ((x : ℕ) → x < n → f x ≡ true → g x ≡ true) → count f n ≤ count g n
  count-more zero h = omega arith
  count-more (suc n) h =
      let l = count-more n (λ x p e. h x (omega arith) e) in
      by-test (f n) (λ e. rw (e, h n (omega arith) e) (omega (arith, l))) (λ e. by-test (g n) (λ d. rw (e, d) (omega (arith, l))) (λ d. rw (e, d) (omega (arith, l))))

  count-new : (n x : ℕ) → ((x : ℕ) → x < n → f x ≡ true → g x ≡ true) → x < n → f x ≡ false → g x ≡ true → count f n + 1 ≤ count g n
  count-new zero x h p a b = absurd (omega arith)
  count-new (suc n) x h p a b =
      by-test (eqb x n)
      (λ e.
      let z : x ≡ n = eqb-true _ _ e in
      let l = count-more n (λ x p e. h x (omega arith) e) in
      rw (ap f (sym z) ∙ a, ap g (sym z) ∙ b) (omega (arith, l)))
      (λ e.
      let u : x ≡ n → ⊥ = eqb-false _ _ e in
      let l = count-new n x (λ x p e. h x (omega arith) e) (omega (arith, u)) a b in
      by-test (f n) (λ d. rw (d, h n (omega arith) d) (omega (arith, l))) (λ d. by-test (g n) (λ c. rw (d, c) (omega (arith, l))) (λ c. rw (d, c) (omega (arith, l)))))

-- what is reached in at most k rounds; a round that reaches nothing further is followed by none that does
module _ (n : ℕ) (in-rounds : ℕ → ℕ → Bool) (grows : (k x : ℕ) → in-rounds k x ≡ true → in-rounds (suc k) x ≡ true)
    (stays : (k : ℕ) → ((x : ℕ) → x < n → in-rounds (suc k) x ≡ true → in-rounds k x ≡ true)
    → (x : ℕ) → x < n → in-rounds (suc (suc k)) x ≡ true → in-rounds (suc k) x ≡ true) where
  abbrev Still : ℕ → Type 0
  Still k = (x : ℕ) → x < n → in-rounds (suc k) x ≡ true → in-rounds k x ≡ true

  abbrev further : ℕ → Bool
  further k = some (λ x. in-rounds (suc k) x && not (in-rounds k x)) 0 n

  none-further : (k : ℕ) → further k ≡ false → Still k
  none-further k e x p q =
      by-test (in-rounds k x) (λ a. a)
      (λ a. absurd (false≢true (sym e ∙ among-some (λ x. in-rounds (suc k) x && not (in-rounds k x)) n 0 x (omega arith) (omega arith) (rw (q, a)))))

  one_more : (k : ℕ) → further k ≡ true → count (in-rounds k) n + 1 ≤ count (in-rounds (suc k)) n
  one_more k e =
      let m = some-among (λ x. in-rounds (suc k) x && not (in-rounds k x)) n 0 e in
      let p = both (in-rounds (suc k) m.one) (not (in-rounds k m.one)) m.so in
      count-new (in-rounds k) (in-rounds (suc k)) n m.one (λ x h. grows k x) (omega (arith, m.below)) (not-true _ p.1) p.0

  not-further : (k : ℕ) → Still k → further k ≡ true → ⊥
  not-further k s e =
      let m = some-among (λ x. in-rounds (suc k) x && not (in-rounds k x)) n 0 e in
      let p = both (in-rounds (suc k) m.one) (not (in-rounds k m.one)) m.so in
      false≢true (sym (not-true _ p.1) ∙ s m.one (omega (arith, m.below)) p.0)

  as_many : (k : ℕ) → further k ≡ true → k + 1 ≤ count (in-rounds (suc k)) n
  as_many zero e = omega (arith, one_more zero e)
  as_many (suc k) e =
      by-test (further k) (λ a. omega (arith, as_many k a, one_more (suc k) e)) (λ a. absurd (not-further (suc k) (stays k (none-further k a)) e))

  pub still : Still n
  still = none-further n (by-test (further n) (λ a. absurd (omega (arith, as_many n a, count_low (in-rounds (suc n)) n))) (λ a. a))
