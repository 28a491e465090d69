use Rattle.std.proofs.Common.{rules, ap, ◌∙◌, ◌+◌, Err}
use Rattle.std.proofs.lemmas.Result.{err_from_is_err_and}
use Rattle.owned_link.specs.Owned.{none, more}
use Rattle.owned_link.proofs.OwnedLink.merge_parts.Goals as goal

pub loop-k-init : goal.loop-k-init
loop-k-init c = none

pub returns-in_err-merge_part : goal.returns-in_err-merge_part
returns-in_err-merge_part c =
    let p = err_from_is_err_and c.from_residual.result c.from_residual.ensures.1 in
    rw (p.1 ∙ ap Err p.2)
    (record {
      count = c.loop-k.k + 1;
      within = search rules;
      merged = more c.loop-k.self c.loop-k.invariant c.in_err-merge_part.ensures;
      whole = search rules;
    })

pub loop-k-preserved : goal.loop-k-preserved
loop-k-preserved c = more c.loop-k.self c.loop-k.invariant c.in_ok-merge_part.ensures
