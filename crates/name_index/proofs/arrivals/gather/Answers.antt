use Rattle.std.proofs.Common.{arith, append-nil, sym, ap, ◌∙◌, ◌++◌, ◌-◌, ◌≡◌, ℕ, take}
use Rattle.name_index.specs.Named.{rows_in}
use Rattle.name_index.specs.Arrivals.{global_rows}
use Rattle.name_index.specs.Proof.Finding.{gathered-not, gathered-one}
use Rattle.name_index.proofs.arrivals.gather.Goals.{then-scope_at-ne-LOCAL, else-scope_at-ne-LOCAL}
use Rattle.name_index.proofs.arrivals.gather.Goals as goal

pub loop-id-preserved : goal.loop-id-preserved
loop-id-preserved c =
    let i = c.loop-id.invariant in
    let t = c.loop-id-test.true in
    elim c.if-scope_at-ne-LOCAL.branch [
      | then-scope_at-ne-LOCAL w ↦
          let n = w.count-is in
          let l = c.requires.lent in
          let a = c.loop-id.auto.ids in
          let one = gathered-one (rows_in c.args.rows) _ _ _ _ _ t i.2
          (λ e. w.if-scope_at-ne-LOCAL.true (c.scope_at.ensures ∙ e)) (omega (arith, i.0, t, l, a)) in
          (omega (arith, n, i.0), omega (arith, n, i.0, t), rw (n, w.ids-is) one)
      | else-scope_at-ne-LOCAL w ↦
          let n = w.count-is in
          let none = gathered-not (rows_in c.args.rows) _ _ _ _ _ t i.2 (sym c.scope_at.ensures ∙ w.if-scope_at-ne-LOCAL.false) in
          (omega (arith, n, i.0), omega (arith, n, i.1), rw (n, w.ids-is) none)
    ]

pub returns-clause-within : goal.returns-clause-within
returns-clause-within c = let i = c.loop-id.invariant.1 in let l = c.requires.lent in let a = c.loop-id.auto.ids in omega (arith, i, l, a)

pub returns-clause-gathered : goal.returns-clause-gathered
unfolding global_rows
returns-clause-gathered c =
    let i = c.loop-id.invariant in
    let e : c.args.to - c.loop-id.id ≡ 0 = let t = c.loop-id-test.false in omega (arith, t) in
    sym (append-nil _) ∙ sym (ap (λ (n : ℕ). take c.loop-id.count c.loop-id.ids ++ global_rows (rows_in c.args.rows) c.loop-id.id n) e) ∙ i.2
