-- What passing the head gives.
-- Assumes nothing.
use Rattle.std.specs.Prelude.{ℕ, ◌≤◌, ◌≡◌, eqb, ltb}
use Rattle.std.proofs.Common.{arith, sym, ◌∙◌, eqb-true, ltb-false}
use Rattle.cells.specs.Proof.Split.{by-test}
use Rattle.link.specs.declared.cause.Refusal.{Refusal}
use Rattle.link.specs.Judge.{refused}
use Rattle.gc_sections.specs.Proof.RunWays.{never}
use Rattle.plain_collector.specs.Run.{judge_plain, most_built}

-- 30 isn't 0: the first collector's head passes too
pub judge-passed : (head : Refusal) (built : ℕ) → (judge_plain head built).number ≡ 0 → (head.number ≡ 0) × (built ≤ most_built)
unfolding judge_plain
judge-passed head built e =
    by-test (eqb head.number 22) (λ a. absurd (differ (sym (eqb-true _ _ a) ∙ (rw a at e))))
    (λ a.
    by-test (eqb head.number 1) (λ b. absurd (unlike (sym (eqb-true _ _ b) ∙ (rw (a, b) at e))))
    (λ b. let c = never (ltb most_built built) (refused 30 0) head (λ q. omega arith) (rw (a, b) at e) in (c.1, ltb-false _ _ c.0)))
  where
    differ : ◌≡◌ {A = ℕ} 22 0 → ⊥
    differ q = omega arith

    unlike : ◌≡◌ {A = ℕ} 1 0 → ⊥
    unlike q = omega arith
