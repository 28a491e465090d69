use Rattle.std.proofs.Common.{arith, rules, sym, ◌∙◌}
use Rattle.lot_report.specs.Proof.Sums.{checked-none, checked-some, line-past, line-whole, fits-thirteen}
use Rattle.lot_report.proofs.Title.figures.Goals as goal

pub returns-in_err-kept_bytes : goal.returns-in_err-kept_bytes
returns-in_err-kept_bytes c = c.from_residual.ensures ∙ line-past _ 11 (omega arith) (checked-none _ (sym c.bytes_in_state.ensures ∙ c.in_err-kept_bytes.was))

pub returns-in_err-dropped_bytes : goal.returns-in_err-dropped_bytes
returns-in_err-dropped_bytes c =
    c.from_residual-in_err-dropped_bytes.ensures ∙ line-past _ 12 (omega arith) (checked-none _ (sym c.bytes_in_state-2.ensures ∙ c.in_err-dropped_bytes.was))

pub returns : goal.returns
returns c =
    let k = checked-some _ _ (sym c.bytes_in_state.ensures ∙ c.in_ok-kept_bytes.was) in
    let d = checked-some _ _ (sym c.bytes_in_state-2.ensures ∙ c.in_ok-dropped_bytes.was) in
    line-whole _ _
    (simp (
      c.listed.ensures,
      c.listed-2.ensures,
      c.listed-3.ensures,
      c.listed-4.ensures,
      c.listed-5.ensures,
      c.listed-6.ensures,
      c.listed-7.ensures,
      c.count_state.ensures.value,
      c.count_state-2.ensures.value,
      k.0,
      d.0,
    ))
    (fits-thirteen _ _ _ _ _ _ _ _ _ _ _ _ _ (search rules) (search rules) (search rules) (search rules) (search rules) (search rules) (search rules) (search rules)
    (search rules) (search rules) (search rules) (search rules) (search rules))
