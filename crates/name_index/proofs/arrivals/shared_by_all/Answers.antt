use Rattle.std.proofs.Common.{arith, sym, ap, ◌∙◌, ◌+◌, ◌≡◌, ◌≤◌, ◌<◌, ◌≢◌, ℕ, List, take, length-take-le, eqb, ltb}
use Rattle.std.proofs.lemmas.List.{take-take}
use borrow.Author.Tests.{eqb-true, eqb-false, ltb-true, ltb-false}
use Rattle.cells.specs.Proof.Split.{by-test}
use Rattle.name_index.specs.Named.{rows_in}
use Rattle.name_index.specs.Keys.{named}
use Rattle.name_index.proofs.arrivals.shared_by_all.Goals as goal

-- what n bytes begin with is what the first of them do
fewer : (x first : List ℕ) (m n : ℕ) → m ≤ n → take n x ≡ take n first → take m x ≡ take m first
fewer x first m n h e = sym (take-take m n x h) ∙ ap (take m) e ∙ take-take m n first h

pub loop-k-preserved : goal.loop-k-preserved
loop-k-preserved c =
    let r = rows_in c.args.rows in
    let first : List ℕ = c.name_at-first.result.now in
    let old : ℕ = c.loop-k.shared in
    let new : ℕ = c.shared_start-shared.result in
    let i = c.loop-k.invariant in
    let w = c.shared_start-shared.ensures.within in
    let h : new ≤ old = omega (arith, w, length-take-le old first i.0) in
    let own : take new (named r c.args.ids.now c.loop-k.k) ≡ take new first =
    ap (take new) (sym c.name_at.ensures) ∙ sym c.shared_start-shared.ensures.shared ∙ take-take new old first h in (
      omega (arith, h, i.0),
      λ j g.
          by-test (eqb j c.loop-k.k) (λ t. ap (λ (k : ℕ). take new (named r c.args.ids.now k)) (eqb-true _ _ t) ∙ own)
          (λ t. let u : j ≢ c.loop-k.k = eqb-false _ _ t in fewer (named r c.args.ids.now j) first new old h (i.1 j (below j c.loop-k.k u g))),
    )
  where
    below : (m k : ℕ) → m ≢ k → m < k + 1 → m < k
    below m k u h = by-test (ltb m k) (λ t. ltb-true _ _ t) (λ t. absurd (u (omega (arith, h, ltb-false m k t))))
