use Rattle.std.proofs.Common.{arith}
use Rattle.archive_index.specs.Proof.Ways.{entries-on, entries-end}
use Rattle.archive_index.proofs.several.Archives.entries.Goals as goal

pub loop-j-preserved : goal.loop-j-preserved
loop-j-preserved c = record {
  sum = entries-on _ _ _ _ _ _ c.index.result.now c.loop-j-test.true c.index.ensures c.count-entries.ensures.value c.loop-j.invariant.sum;
  bound = omega (arith, c.loop-j.invariant.bound, c.count-entries.ensures.bound);
}

pub returns : goal.returns
returns c = search (entries-end, c.loop-j.invariant.sum)
