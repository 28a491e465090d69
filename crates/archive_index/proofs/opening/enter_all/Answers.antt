use Rattle.std.proofs.Common.{arith, rules, ◌≡◌, ◌-◌, ap, ◌∙◌}
use Rattle.archive_index.specs.Index.{after_of}
use Rattle.archive_index.specs.Proof.Ways.{after-or, after-low, enter-start, enter-on, enter-end}
use Rattle.archive_index.proofs.opening.enter_all.Goals as goal

pub loop-i-init : goal.loop-i-init
loop-i-init c = record { rest = enter-start _ _ _ _ _ 0 _ _ _ (search rules); low = omega (arith, c.count-entries.ensures.bound) }

pub loop-i-preserved : goal.loop-i-preserved
loop-i-preserved c =
    let after : c.unwrap_or-after.result ≡ after_of c.args.index.now c.loop-i.at = search (rules, after-or) in
    record {
      rest =
          let len : c.saturating_sub-len.result ≡ c.unwrap_or-after.result - c.loop-i.at - 1 = c.saturating_sub-len.ensures ∙ ap (λ n. n - 1) c.saturating_sub.ensures in
          enter-on _ _ _ _ _ _ _ _ _ c.offset.result _ _ c.loop-i-test.true after c.offset.ensures.value (rw len at c.enter.ensures) c.loop-i.invariant.rest;
      low = let l = after-low c.args.index.now c.loop-i.at in omega arith;
    }

pub returns : goal.returns
returns c = search (enter-end, c.loop-i.invariant.rest)
