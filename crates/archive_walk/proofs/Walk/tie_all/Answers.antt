use Rattle.std.proofs.Common.{rules}
use Rattle.archive_walk.specs.Proof.Ways.{queued-on, all-on, all_end, count-on}
use Rattle.archive_walk.specs.Proof.PassesWays.{noted-on}
use Rattle.archive_walk.proofs.Walk.tie_all.Goals as goal

pub loop-k-preserved : goal.loop-k-preserved
loop-k-preserved c =
    let i = c.loop-k.invariant in
    let q = rw i.same.1 at c.tie.ensures.queue in
    record {
      same = search rules;
      rest = queued-on c.args.self.now _ _ i.rest c.tie.ensures.rest;
      room = count-on _ _ _ _ _ _ _ _ _ _ _ c.tie.ensures.queue i.room;
      queue = all-on _ _ _ c.args.self.now _ _ _ _ i.rest c.loop-k-test.true q i.queue;
      noted = noted-on _ _ _ _ _ _ _ _ _ _ _ _ q i.noted;
    }

pub returns-clause-queue : goal.returns-clause-queue
returns-clause-queue c = search all_end
