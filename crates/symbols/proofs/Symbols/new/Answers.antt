use Rattle.std.proofs.Common.{◌∙◌, ap, Err}
use Rattle.std.proofs.lemmas.Result.{err_from_is_err_and}
use Rattle.symbols.specs.Proof.NewWays.{new-unnamed}
use Rattle.symbols.proofs.Symbols.new.Goals as goal

pub returns-in_err-named : goal.returns-in_err-named
returns-in_err-named c =
    let p = err_from_is_err_and c.from_residual.result c.from_residual.ensures.1 in
    new-unnamed _ _ _ _ _ _ _ _ _ _ (p.1 ∙ ap Err p.2) (λ e. c.if-symbol_rows-eq0.false (c.symbol_rows.ensures ∙ e)) (rw c.in_err-named.was at c.reset.ensures.reset)
