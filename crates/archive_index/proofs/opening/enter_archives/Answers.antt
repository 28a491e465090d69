use Rattle.std.proofs.Common.{arith, ap, ◌∙◌, min, length}
use Rattle.link.specs.Proof.Ways.{min-lesser}
use Rattle.archive_index.specs.Proof.Ways.{rows-on, rows-end}
use Rattle.archive_index.proofs.opening.enter_archives.Goals as goal

pub loop-j-preserved : goal.loop-j-preserved
loop-j-preserved c = record {
  rest =
      let place = c.min-start.ensures ∙ ap (λ x. min x (length c.args.archives.bytes.now)) c.start.ensures ∙ min-lesser _ _ in
      rows-on _ _ _ _ _ _ _ c.index-index.result.now _ _ c.loop-j-test.true c.index-index.ensures c.count-base.ensures.value place c.enter_all.ensures c.loop-j.invariant.rest;
  bound = omega (arith, c.loop-j.invariant.bound, c.count-base.ensures.bound);
}

pub returns : goal.returns
returns c = search (rows-end, c.loop-j.invariant.rest)
