use Rattle.std.specs.Prelude.{Result, Err}
use Rattle.std.proofs.Common.{sym, ap, subst, ◌∙◌}
use Rattle.std.proofs.lemmas.Result.{err_from_is_err_and}
use Rattle.link.specs.declared.cause.Refusal.{Refusal}
use Rattle.link.specs.declared.SymbolId.{SymbolId}
use Rattle.symbols.specs.Calls.{Left, said}
use Rattle.add_list.specs.Proof.Ways.{Numbered, added-numbered}
use Rattle.add_list.proofs.turn.Goals as goal

pub returns-in_err-id-clause-number : goal.returns-in_err-id-clause-number
returns-in_err-id-clause-number c =
    let p = err_from_is_err_and c.from_residual.result c.from_residual.ensures.1 in
    rw (p.1 ∙ ap Err p.2)
    (subst (λ (a : Result SymbolId Refusal). Numbered (said a)) c.in_err-id.was
    (subst (λ (w : Left). Numbered w.said) (sym c.add.ensures.added) (added-numbered _ _ _)))
