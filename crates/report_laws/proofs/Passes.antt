-- The members that a walk handed out and the passes that it made, over any calls.
-- Assumes nothing.
use Rattle.std.specs.Prelude.{ℕ, ◌+◌, ◌≡◌, refl, true, false, cond, List, [], ◌∷◌, eqb, ltb, length, is_ok}
use Rattle.std.proofs.Common.{arith, sym, ap, ◌∙◌}
use Rattle.cells.specs.Proof.Split.{by-test}
use Rattle.archive_index.specs.Archives.{Archives}
use Rattle.archive_walk.specs.Look.{Table, judge_table}
use Rattle.archive_walk.specs.Walk.{begun_number, start_of, next_of, go_of, pass_of, search_of, make_of, offer_of, walk_fits, tie_all, queue_of, removed_of}
use Rattle.archive_laws.specs.Members.{Rounds, rounds}
use Rattle.archive_laws.specs.Runs.{Run, views_by, step_run, history, start_run}
use Rattle.archive_laws.proofs.Pass.{queue-length}
use Rattle.archive_laws.proofs.Terms.{walked}
use Rattle.report_laws.specs.Walks.{makes_pass, passes_made}

module _ (a : Archives) (r : Run) (t : Table) where
  -- one call
  step-passes : (step_run a t r).walk.passes ≡ r.walk.passes + cond (makes_pass a r t) 1 0
  unfolding step_run next_of go_of pass_of search_of make_of offer_of walk_fits
  step-passes =
      by-test r.walk.done (λ d. rw d (omega arith))
      (λ d.
      by-test (walk_fits a r.cells r.walk)
      (λ f.
      by-test (ltb r.walk.offered r.walk.queued) (λ o. rw (d, f, o) (omega arith))
      (λ o.
      by-test (eqb (judge_table t).number 0)
      (λ j.
      let x : ℕ = removed_of a.bytes r.cells t r.walk.entries 0 in
      by-test (ltb x r.walk.entries) (λ g. rw (d, f, o, j, g) (omega arith))
      (λ g.
      by-test (ltb r.walk.offered (tie_all r.walk.key r.walk.entries a.bytes t (r.walk.passes + 1) r.walk.entries 0 (queue_of r.cells r.walk.queued)).queued)
      (λ h. rw (d, f, o, j, g, h) refl) (λ h. rw (d, f, o, j, g, h) refl)))
      (λ j. rw (d, f, o, j) (omega arith))))
      (λ f. by-test (ltb r.walk.offered r.walk.queued) (λ o. rw (d, f, o) (omega arith)) (λ o. rw (d, f, o) (omega arith))))

module _ (a : Archives) where
  pub passes-from : (ts : List Table) (r : Run) → (history a ts r).walk.passes ≡ r.walk.passes + passes_made a ts r
  unfolding history passes_made
  passes-from [] r = omega arith
  passes-from (t ∷ ts) r = omega (arith, passes-from ts (step_run a t r), step-passes a r t)

module _ (key : ℕ) (a : Archives) (l : List ℕ) (begun : begun_number (start_of key a l).started.begun ≡ 0) (ts : List Table) where
  abbrev run : Run
  run = history a ts (start_run key a l)

  pub offered-is : run.walk.offered ≡ length run.offers
  offered-is = sym (ap length (walked key a l begun ts).in_order ∙ queue-length run.cells run.walk.offered)

  none-yet : (start_run key a l).walk.passes ≡ 0
  unfolding history rounds views_by
  none-yet = ap (λ (x : Rounds). x.passes) (walked key a l begun []).same-rounds

  pub passes-are : run.walk.passes ≡ passes_made a ts (start_run key a l)
  passes-are = omega (arith, passes-from a ts (start_run key a l), none-yet)
