use Rattle.std.proofs.Common.{rules, refl, ap, ◌∙◌, Err}
use Rattle.std.proofs.lemmas.Result.{err_from_is_err_and}
use Rattle.shared_objects.specs.Proof.SymbolsLoadWays.{reached-start, reached-on, reached-stop, reached-end}
use Rattle.shared_objects.proofs.Loading.load_symbols.Goals as goal

pub loop-i-init : goal.loop-i-init
loop-i-init c = record { loans = search rules; inputs = refl; reached = search (rules, reached-start) }

pub returns-in_err-load_symbol-clause-value : goal.returns-in_err-load_symbol-clause-value
returns-in_err-load_symbol-clause-value c =
    let p = err_from_is_err_and c.from_residual.result c.from_residual.ensures.1 in
    rw (p.1 ∙ ap Err p.2) (search (reached-stop, c.in_err-load_symbol.ensures.value, c.in_err-load_symbol.ensures.numbered))

pub loop-i-preserved : goal.loop-i-preserved
loop-i-preserved c = record {
  loans = search rules;
  inputs = search rules;
  reached = search (reached-on, c.in_ok-load_symbol.ensures.value);
}

pub returns-clause-value : goal.returns-clause-value
returns-clause-value c = search reached-end
