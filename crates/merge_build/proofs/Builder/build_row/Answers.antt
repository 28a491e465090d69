use Rattle.std.proofs.Common.{rules, refl}
use Rattle.merge_build.specs.Proof.BuildWays.{lists-within, lists-sum}
use Rattle.merge_build.proofs.Builder.build_row.Goals as goal

pub append_ids-requires : goal.append_ids-requires
append_ids-requires c = lists-within _ _ _ _ refl c.requires

pub overflow_add-self : goal.overflow_add-self
overflow_add-self c = search (rules, lists-sum)
