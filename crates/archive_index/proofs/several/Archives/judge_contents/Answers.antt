use Rattle.std.proofs.Common.{arith, sym, ap, ◌∙◌, Err}
use Rattle.std.proofs.lemmas.Result.{err_from_is_err_and}
use Rattle.archive_index.specs.Proof.Ways.{contents-on, contents-stop, contents-end}
use Rattle.archive_index.proofs.several.Archives.judge_contents.Goals as goal

pub returns-in_err-judge_index : goal.returns-in_err-judge_index
returns-in_err-judge_index c =
    let p = err_from_is_err_and c.from_residual.result c.from_residual.ensures.1 in
    contents-stop _ _ _ _ _ _ _ c.index-index.result.now c.loop-j-test.true c.index-index.ensures (sym c.in_err-judge_index.was ∙ c.judge_index.ensures) c.loop-j.invariant.rest (p.1 ∙ ap Err p.2)

pub loop-j-preserved : goal.loop-j-preserved
loop-j-preserved c = record {
  rest = contents-on _ _ _ _ _ _ _ c.index-index.result.now c.loop-j-test.true c.index-index.ensures c.count-base.ensures.value (sym c.in_ok-judge_index.was ∙ c.judge_index.ensures) c.loop-j.invariant.rest;
  bound = omega (arith, c.loop-j.invariant.bound, c.count-base.ensures.bound);
}

pub returns : goal.returns
returns c = search (contents-end, c.loop-j.invariant.rest)
