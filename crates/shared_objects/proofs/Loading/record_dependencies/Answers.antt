use Rattle.std.proofs.Common.{rules, refl, ap, ◌∙◌, Err}
use Rattle.std.proofs.lemmas.Result.{err_from_is_err_and}
use Rattle.shared_objects.specs.Proof.ListsWays.{listed_start, listed-on, listed-stop, listed-end}
use Rattle.shared_objects.proofs.Loading.record_dependencies.Goals as goal

pub loop-j-init : goal.loop-j-init
loop-j-init c = record { loans = search rules; rows = search rules; inputs = refl; listed = listed_start _ _ _ }

pub returns-in_err-record_dependency-clause-value : goal.returns-in_err-record_dependency-clause-value
returns-in_err-record_dependency-clause-value c =
    let p = err_from_is_err_and c.from_residual.result c.from_residual.ensures.1 in
    rw (p.1 ∙ ap Err p.2) (search (listed-stop, c.in_err-record_dependency.ensures.value, c.in_err-record_dependency.ensures.numbered))

pub loop-j-preserved : goal.loop-j-preserved
loop-j-preserved c = record {
  loans = search rules;
  rows = search rules;
  inputs = search rules;
  listed = search (listed-on, c.in_ok-record_dependency.ensures.value);
}

pub returns-clause-value : goal.returns-clause-value
returns-clause-value c = search listed-end
