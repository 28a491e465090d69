use Rattle.std.proofs.Common.{rules}
use Rattle.std.proofs.Common.{rules}
use Rattle.replay_object.specs.Proof.Ways.{list-long, list-start, list-more, list-end}
use Rattle.replay_object.proofs.put_list.Goals as goal

pub returns-then-count-gt-PART : goal.returns-then-count-gt-PART
returns-then-count-gt-PART c = search list-long

pub loop-j-init : goal.loop-j-init
loop-j-init c = search (rules, list-start)

pub loop-j-preserved : goal.loop-j-preserved
loop-j-preserved c = (list-more _ _ _ _ _ _ _ c.loop-j-test.true c.put_listed.ensures c.loop-j.invariant.0, search rules)

pub returns : goal.returns
returns c = search list-end
