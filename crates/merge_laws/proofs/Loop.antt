-- Theorems over specs/Loop.antt.
-- Assumes nothing.
use Rattle.std.specs.Prelude.{ℕ, zero, suc, ◌+◌, ◌<◌, ◌≤◌, ◌≡◌, refl, cond, List, ◌++◌, ◌≢◌, eqb}
use Rattle.std.proofs.Common.{arith, not-suc-le-zero, sym, ap, ◌∙◌, subst, append-nil, append_assoc, eqb-true}
use Rattle.std.proofs.lemmas.Bool.{eqb-false}
use Rattle.cells.specs.Proof.Split.{by-test}
use Rattle.symbol_laws.specs.History.{State}
use Rattle.merge_laws.specs.Steps.{Step, Makes}
use Rattle.merge_laws.proofs.Steps.{makes_none, makes_both}
use Rattle.merge_laws.specs.Loop as Base

module _ {S : Type 0} (number : S → ℕ) (next : S → ℕ → S) where
  -- n elements from the i-th on
  abbrev pub loop : ℕ → ℕ → S → S
  loop zero i s = s
  loop (suc n) i s = cond (eqb (number (next s i)) 0) (loop n (i + 1) (next s i)) (next s i)

  module _ (steps : S → ℕ → List Step) where
    abbrev loop_steps : ℕ → ℕ → S → List Step
    loop_steps = Base.loop_steps {S = S} number next steps

    module _ (table : S → State) (Holds : S → Type 0) (stays : (s : S) (i : ℕ) → Holds s → Holds (next s i))
        (one : (s : S) (i : ℕ) → Holds s → Makes (table s) (steps s i) (table (next s i))) where
      pub loop-makes : (n i : ℕ) (s : S) → Holds s → Makes (table s) (loop_steps n i s) (table (loop n i s))
      loop-makes zero i s h = makes_none (table s)
      loop-makes (suc n) i s h =
          by-test (eqb (number (next s i)) 0)
          (λ t.
          rw t
          (makes_both (table s) (table (next s i)) _ (steps s i) (loop_steps n (i + 1) (next s i)) (one s i h)
          (loop-makes n (i + 1) (next s i) (stays s i h))))
          (λ t. rw t (one s i h))

  module _ (Holds : S → Type 0) (stays : (s : S) (i : ℕ) → Holds s → Holds (next s i)) where
    pub loop-holds : (n i : ℕ) (s : S) → Holds s → Holds (loop n i s)
    loop-holds zero i s h = h
    loop-holds (suc n) i s h =
        by-test (eqb (number (next s i)) 0) (λ t. rw t (loop-holds n (i + 1) (next s i) (stays s i h))) (λ t. rw t (stays s i h))

    -- what an element of a loop that goes to its end gives, and each later one leaves, holds at the end
    pub loop-later : (rows i n : ℕ) (s : S) → number s ≡ 0 → number (loop rows i s) ≡ 0 → n < rows
        → (number (loop n i s) ≡ 0 → number (next (loop n i s) (i + n)) ≡ 0 → Holds (next (loop n i s) (i + n))) → Holds (loop rows i s)
    loop-later zero i n s z h l f = absurd (omega arith)
    loop-later (suc rows) i zero s z h l f =
        let e : i + 0 ≡ i = omega arith in
        by-test (eqb (number (next s i)) 0)
        (λ t.
        rw t (loop-holds rows (i + 1) (next s i) (subst (λ (j : ℕ). Holds (next s j)) e (f z (ap (λ (j : ℕ). number (next s j)) e ∙ eqb-true _ _ t)))))
        (λ t. absurd (eqb-false _ _ t (rw t at h)))
    loop-later (suc rows) i (suc n) s z h l f =
        let e : i + suc n ≡ i + 1 + n = omega arith in
        by-test (eqb (number (next s i)) 0)
        (λ t.
        let g = subst (λ (j : ℕ). number (loop n (i + 1) (next s i)) ≡ 0 → number (next (loop n (i + 1) (next s i)) j) ≡ 0 → Holds (next (loop n (i + 1) (next s i)) j)) e (rw t at f) in
        rw t (loop-later rows (i + 1) n (next s i) (eqb-true _ _ t) (rw t at h) (omega arith) g))
        (λ t. absurd (eqb-false _ _ t (rw t at h)))

  -- a loop that goes to its end passes each element
  pub loop-going : (rows i n : ℕ) (s : S) → number s ≡ 0 → number (loop rows i s) ≡ 0 → n ≤ rows → number (loop n i s) ≡ 0
  loop-going rows i zero s z h l = z
  loop-going zero i (suc n) s z h l = absurd (omega arith)
  loop-going (suc rows) i (suc n) s z h l =
      by-test (eqb (number (next s i)) 0) (λ t. rw t (loop-going rows (i + 1) n (next s i) (eqb-true _ _ t) (rw t at h) (omega arith)))
      (λ t. absurd (eqb-false _ _ t (rw t at h)))

  -- a refused loop: what the elements before the refused one left, and that element
  pub record StopsIn (n i : ℕ) (s : S) : Type 0 where
    pub done : ℕ
    pub below : done < n
    pub going : number (loop done i s) ≡ 0
    pub stopped : loop n i s ≡ next (loop done i s) (i + done)

  pub loop-stops : (n i : ℕ) (s : S) → number s ≡ 0 → number (loop n i s) ≢ 0 → StopsIn n i s
  loop-stops zero i s z u = absurd (u z)
  loop-stops (suc n) i s z u =
      by-test (eqb (number (next s i)) 0)
      (λ t.
      let r = loop-stops n (i + 1) (next s i) (eqb-true _ _ t) (rw t at u) in
      let e : i + 1 + r.done ≡ i + suc r.done = omega arith in
      record {
        done = suc r.done;
        below = omega (arith, r.below);
        going = rw t r.going;
        stopped = rw t (r.stopped ∙ ap (next (loop r.done (i + 1) (next s i))) e);
      })
      (λ t. record { done = 0; below = omega arith; going = z; stopped = rw t (ap (next s) (let e : i ≡ i + 0 = omega arith in e)) })

  -- ---- one more element of a loop that goes on

  pub loop-next : (n i : ℕ) (s : S) → number (loop n i s) ≡ 0 → loop (suc n) i s ≡ next (loop n i s) (i + n)
  loop-next zero i s z =
      let e : i ≡ i + 0 = omega arith in
      by-test (eqb (number (next s i)) 0) (λ t. rw t (ap (next s) e)) (λ t. rw t (ap (next s) e))
  loop-next (suc n) i s z =
      let e : i + 1 + n ≡ i + suc n = omega arith in
      by-test (eqb (number (next s i)) 0)
      (λ t. rw t (loop-next n (i + 1) (next s i) (rw t at z) ∙ ap (next (loop n (i + 1) (next s i))) e))
      (λ t. absurd (eqb-false _ _ t (rw t at z)))

  -- a loop whose k-th element is refused ends there
  pub loop-ends : (k n i : ℕ) (s : S) → k < n → number (loop k i s) ≡ 0 → number (next (loop k i s) (i + k)) ≢ 0 → loop n i s ≡ next (loop k i s) (i + k)
  loop-ends k zero i s h z u = absurd (not-suc-le-zero h)
  loop-ends zero (suc n) i s h z u =
      let e : i + 0 ≡ i = omega arith in
      by-test (eqb (number (next s i)) 0) (λ t. absurd (u (ap (λ (j : ℕ). number (next s j)) e ∙ eqb-true _ _ t))) (λ t. rw t (ap (next s) (sym e)))
  loop-ends (suc k) (suc n) i s h z u =
      let e : i + suc k ≡ i + 1 + k = omega arith in
      by-test (eqb (number (next s i)) 0)
      (λ t.
      let r : S = loop k (i + 1) (next s i) in
      let v : number (next r (i + suc k)) ≢ 0 = rw t at u in
      rw t
      (loop-ends k n (i + 1) (next s i) (omega arith) (rw t at z) (λ q. v (ap (λ (j : ℕ). number (next r j)) e ∙ q)) ∙ ap (next r) (sym e)))
      (λ t. absurd (eqb-false _ _ t (rw t at z)))

  module _ (steps : S → ℕ → List Step) where
    pub steps_next : (n i : ℕ) (s : S) → number (loop n i s) ≡ 0 → loop_steps steps (suc n) i s ≡ loop_steps steps n i s ++ steps (loop n i s) (i + n)
    steps_next zero i s z =
        let e : i ≡ i + 0 = omega arith in
        by-test (eqb (number (next s i)) 0) (λ t. rw t (append-nil (steps s i) ∙ ap (steps s) e)) (λ t. rw t (ap (steps s) e))
    steps_next (suc n) i s z =
        let e : i + 1 + n ≡ i + suc n = omega arith in
        let r : S = loop n (i + 1) (next s i) in
        by-test (eqb (number (next s i)) 0)
        (λ t.
        rw t
        (ap (◌++◌ (steps s i)) (steps_next n (i + 1) (next s i) (rw t at z) ∙ ap (λ (k : ℕ). loop_steps steps n (i + 1) (next s i) ++ steps r k) e)
        ∙ sym (append_assoc (steps s i) (loop_steps steps n (i + 1) (next s i)) (steps r (i + suc n)))))
        (λ t. absurd (eqb-false _ _ t (rw t at z)))

    -- the steps of the first k elements are the first steps of all n
    pub record Splits (k n i : ℕ) (s : S) : Type 0 where
      pub rest : List Step
      pub is : loop_steps steps n i s ≡ loop_steps steps k i s ++ rest

    pub steps-split : (k n i : ℕ) (s : S) → k ≤ n → number (loop k i s) ≡ 0 → Splits k n i s
    steps-split zero n i s h z = record { rest = loop_steps steps n i s; is = refl }
    steps-split (suc k) zero i s h z = absurd (not-suc-le-zero h)
    steps-split (suc k) (suc n) i s h z =
        by-test (eqb (number (next s i)) 0)
        (λ t.
        let r = steps-split k n (i + 1) (next s i) (omega arith) (rw t at z) in
        record {
          rest = r.rest;
          is = rw t (ap (◌++◌ (steps s i)) r.is ∙ sym (append_assoc (steps s i) (loop_steps steps k (i + 1) (next s i)) r.rest));
        })
        (λ t. absurd (eqb-false _ _ t (rw t at z)))
