use Rattle.std.proofs.Common.{arith, rules, sym, ◌∙◌}
use Rattle.lot_report.specs.Proof.Sums.{checked-none, checked-some, sum-none, summed, unsummed, sum-past, sum-whole}
use Rattle.lot_report.proofs.bytes_in_state.Goals as goal
use Rattle.lot_report.proofs.bytes_in_state.Goals.{then-is_in_state+in_ok-bytes, else-is_in_state}

pub loop-id-init : goal.loop-id-init
loop-id-init c = record { small = omega arith; summed = sum-none _ _ }

pub returns-in_err-bytes : goal.returns-in_err-bytes
returns-in_err-bytes c =
    c.from_residual.ensures
    ∙ sum-past _ _ _ _ _ _ c.loop-id-test.true c.loop-id.invariant.summed c.is_in_state.ensures c.if-is_in_state.true
    (rw c.row_get.ensures at (checked-none _ (sym c.sum.ensures ∙ c.in_err-bytes.was)))

pub loop-id-preserved : goal.loop-id-preserved
loop-id-preserved c =
    elim c.if-is_in_state.branch [
      | then-is_in_state+in_ok-bytes w ↦
          (let k = checked-some _ _ (sym w.sum.ensures ∙ w.in_ok-bytes.was) in
          record {
            small = omega (arith, w.bytes-is, k.0, k.1);
            summed = summed _ _ _ _ _ _ c.loop-id.invariant.summed c.is_in_state.ensures w.if-is_in_state.true (w.bytes-is ∙ rw w.row_get.ensures at k.0);
          })
      | else-is_in_state w ↦ record {
        small = omega (arith, w.bytes-is, c.loop-id.invariant.small);
        summed = w.bytes-is ∙ unsummed _ _ _ _ _ c.loop-id.invariant.summed c.is_in_state.ensures w.if-is_in_state.false;
      }
    ]

pub returns : goal.returns
returns c = sum-whole _ _ _ _ _ c.loop-id-test.false (search rules) c.loop-id.invariant.small c.loop-id.invariant.summed
